use Rattle.std.proofs.Common.{◌≡◌, ◌+◌, ◌*◌, ◌++◌, List, length, take}
use Rattle.tpol_tree.specs.declared.path.Move.{Move}
use Rattle.tpol_tree.specs.declared.path.Path.{Path}
use Rattle.tpol_digest.specs.Paths.{approved_paths, document_paths, product}
use Rattle.tpol_digest.proofs.Weights.{weight, weight_of_element, weight_of_branches, greatest}
use Rattle.tpol_trace.specs.Tables.{AllAsk, AreInside, IsTable}
use Rattle.tpol_trace.proofs.walk.+walk.Given as goal

abbrev pub decreases-ways_of_elements : goal.decreases-ways_of_elements
decreases-ways_of_elements l = 2 * (l.walk.now.levels * greatest l.walk.now.approvals.now) + 2 * weight l.elements.now

abbrev pub decreases-ways_of_rest : goal.decreases-ways_of_rest
decreases-ways_of_rest l = 2 * (l.walk.now.levels * greatest l.walk.now.approvals.now) + 2 * weight l.rest.now + 1

abbrev pub decreases-ways_of_unbranched : goal.decreases-ways_of_unbranched
decreases-ways_of_unbranched l = 2 * (l.walk.now.levels * greatest l.walk.now.approvals.now) + 2 * weight l.elements.now

abbrev pub decreases-ways_of_element : goal.decreases-ways_of_element
decreases-ways_of_element l = 2 * (l.walk.now.levels * greatest l.walk.now.approvals.now) + 2 * weight_of_element l.element.now

abbrev pub decreases-ways_of_or : goal.decreases-ways_of_or
decreases-ways_of_or l = 2 * (l.walk.now.levels * greatest l.walk.now.approvals.now) + 2 * weight_of_branches l.branches.now + 1

abbrev pub decreases-add_branches : goal.decreases-add_branches
decreases-add_branches l = 2 * (l.walk.now.levels * greatest l.walk.now.approvals.now) + 2 * weight_of_branches l.branches.now

abbrev pub decreases-ways_of_approval : goal.decreases-ways_of_approval
decreases-ways_of_approval l = 2 * (l.walk.now.levels * greatest l.walk.now.approvals.now) + 1

abbrev pub decreases-add_documents : goal.decreases-add_documents
decreases-add_documents l = 2 * (l.walk.now.levels * greatest l.walk.now.approvals.now)

abbrev pub invariant-add_documents-loop-document : goal.invariant-add_documents-loop-document
invariant-add_documents-loop-document l =
    (length l.found.first.items ≡ length l.walk.facts.now + 1)
    × ((moves : List Move) (ways done : List Path) → AllAsk l.walk.facts.now moves → AreInside ways → IsTable l.walk.approvals.now l.walk.levels moves l.behind ways → IsTable l.walk.approvals.now l.walk.levels moves l.initial.found done → IsTable l.walk.approvals.now l.walk.levels moves l.found (done ++ product (approved_paths (document_paths l.walk.approvals.now l.walk.levels) (take l.document-index l.walk.approvals.now) l.element) ways))

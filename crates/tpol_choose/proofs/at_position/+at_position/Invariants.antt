use Rattle.std.proofs.Common.{◌≡◌, ◌+◌, ◌*◌, length, take}
use Rattle.tpol_digest.specs.Paths.{approved_paths, document_paths}
use Rattle.tpol_digest.proofs.Weights.{weight, weight_of_element, weight_of_branches, greatest}
use Rattle.tpol_choose.proofs.at_position.+at_position.Given as goal

abbrev pub decreases-go_elements : goal.decreases-go_elements
decreases-go_elements l = l.walk.now.levels * greatest l.walk.now.approvals.now + weight l.elements.now

abbrev pub decreases-go_element : goal.decreases-go_element
decreases-go_element l = l.walk.now.levels * greatest l.walk.now.approvals.now + weight_of_element l.element.now

abbrev pub decreases-go_branches : goal.decreases-go_branches
decreases-go_branches l = l.walk.now.levels * greatest l.walk.now.approvals.now + weight_of_branches l.branches.now

abbrev pub decreases-go_approval : goal.decreases-go_approval
decreases-go_approval l = l.walk.now.levels * greatest l.walk.now.approvals.now

abbrev pub invariant-go_approval-loop-document : goal.invariant-go_approval-loop-document
invariant-go_approval-loop-document l =
    l.fn.index ≡ length (approved_paths (document_paths l.walk.approvals.now l.walk.levels) (take l.document-index l.walk.approvals.now) l.element) + l.left

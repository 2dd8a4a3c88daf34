use Rattle.std.proofs.Common.{◌+◌, ◌*◌, take}
use Rattle.tpol_digest.specs.Extent.{IsCapped, extent_by_approval, document_extent}
use Rattle.tpol_digest.proofs.Weights.{weight, weight_of_element, weight_of_branches, greatest}
use Rattle.tpol_digest.proofs.counting.+counting.Given as goal

abbrev pub decreases-extent_of_elements : goal.decreases-extent_of_elements
decreases-extent_of_elements l = l.levels * greatest l.approvals.now + weight l.elements.now

abbrev pub decreases-extent_of_element : goal.decreases-extent_of_element
decreases-extent_of_element l = l.levels * greatest l.approvals.now + weight_of_element l.element.now

abbrev pub decreases-extent_of_branches : goal.decreases-extent_of_branches
decreases-extent_of_branches l = l.levels * greatest l.approvals.now + weight_of_branches l.branches.now

abbrev pub decreases-extent_of_documents : goal.decreases-extent_of_documents
decreases-extent_of_documents l = l.levels * greatest l.approvals.now

abbrev pub invariant-extent_of_documents-loop-document : goal.invariant-extent_of_documents-loop-document
invariant-extent_of_documents-loop-document l =
    IsCapped l.extent (extent_by_approval (document_extent l.approvals l.levels) l.element (take l.document-index l.approvals))

use Rattle.std.proofs.Common.{◌≡◌, ◌+◌, ◌*◌, length, take}
use Rattle.tpol_digest.specs.Paths.{approved_paths, document_paths}
use Rattle.tpol_digest.proofs.Weights.{weight, weight_of_element, weight_of_branches, greatest}
use Rattle.tpol_digest.proofs.at_position.+at_position.Given as goal

-- twice the weights, so that a function that calls another on the same elements is one more
abbrev pub decreases-push_from_zero : goal.decreases-push_from_zero
decreases-push_from_zero l = 2 * (l.walk.now.levels * greatest l.walk.now.approvals.now + weight l.elements.now) + 1

abbrev pub decreases-push_unbranched : goal.decreases-push_unbranched
decreases-push_unbranched l = 2 * (l.walk.now.levels * greatest l.walk.now.approvals.now + weight l.elements.now)

abbrev pub decreases-push_unbranched_element : goal.decreases-push_unbranched_element
decreases-push_unbranched_element l =
    2 * (l.walk.now.levels * greatest l.walk.now.approvals.now + weight_of_element l.element.now)

abbrev pub decreases-push_elements : goal.decreases-push_elements
decreases-push_elements l = 2 * (l.walk.now.levels * greatest l.walk.now.approvals.now + weight l.elements.now)

abbrev pub decreases-push_element : goal.decreases-push_element
decreases-push_element l = 2 * (l.walk.now.levels * greatest l.walk.now.approvals.now + weight_of_element l.element.now) + 1

abbrev pub decreases-push_branch : goal.decreases-push_branch
decreases-push_branch l = 2 * (l.walk.now.levels * greatest l.walk.now.approvals.now + weight_of_branches l.branches.now)

abbrev pub decreases-push_approval : goal.decreases-push_approval
decreases-push_approval l = 2 * (l.walk.now.levels * greatest l.walk.now.approvals.now)

abbrev pub invariant-push_approval-loop-document : goal.invariant-push_approval-loop-document
invariant-push_approval-loop-document l = record {
  same : l.path ≡ l.initial.path;
  counted : l.fn.index ≡ length (approved_paths (document_paths l.walk.approvals.now l.walk.levels) (take l.document-index l.walk.approvals.now) l.element) + l.left;
}

use Rattle.std.proofs.Common.{◌≡◌, ◌+◌, ◌*◌, ◌<◌, ◌≤◌, length, List, ℕ}
use Rattle.tpol_digest.proofs.Weights.{weight, weight_of_element, weight_of_branches, greatest}
use Rattle.tpol_lines.specs.Texts.{GoesOn, approval_texts}
use Rattle.tpol_lines.proofs.LabelLaws.{texts_from}
use Rattle.tpol_lines.proofs.one_label.+one_label.Given as goal

-- twice the weights, so that a function that calls another on the same elements is one more
abbrev pub decreases-push_elements : goal.decreases-push_elements
decreases-push_elements l = 2 * (l.scope.now.levels * greatest l.scope.now.approvals.now + weight l.elements.now)

abbrev pub decreases-push_element : goal.decreases-push_element
decreases-push_element l = 2 * (l.scope.now.levels * greatest l.scope.now.approvals.now + weight_of_element l.element.now) + 1

abbrev pub decreases-push_branch : goal.decreases-push_branch
decreases-push_branch l = 2 * (l.scope.now.levels * greatest l.scope.now.approvals.now + weight_of_branches l.branches.now)

abbrev pub decreases-push_approval : goal.decreases-push_approval
decreases-push_approval l = 2 * (l.scope.now.levels * greatest l.scope.now.approvals.now)

abbrev pub invariant-push_approval-loop-document : goal.invariant-push_approval-loop-document
invariant-push_approval-loop-document l = record {
  same : l.choices ≡ l.initial.choices;
  few : length (texts_from l.scope.approvals.now l.scope.levels l.element l.document-index) ≤ 65536;
  inside : l.left < length (texts_from l.scope.approvals.now l.scope.levels l.element l.document-index);
  leads : (before after : List ℕ) → GoesOn before (texts_from l.scope.approvals.now l.scope.levels l.element l.document-index) l.left after
      → GoesOn before (approval_texts l.scope.approvals.now l.scope.levels l.element) l.fn.index after;
}

use Rattle.std.proofs.Common.{ℕ, ◌+◌, ◌*◌, ◌≤◌, length, List}
use Rattle.tpol_cert.specs.declared.choice.Choice.{Choice}
use Rattle.tpol_cert.specs.Choices.{approval_choices}
use Rattle.tpol_cert.specs.Following.{Leads, Strays}
use Rattle.tpol_cert.proofs.Going.{choices_from}
use Rattle.tpol_digest.proofs.Weights.{weight, weight_of_element, weight_of_branches, greatest}
use Rattle.tpol_cert.proofs.follow.+follow.Given as goal

-- twice the weights, so that a function that calls another on the same elements is one more
abbrev pub decreases-follow_elements : goal.decreases-follow_elements
decreases-follow_elements l = 2 * (l.scope.now.levels * greatest l.scope.now.approvals.now + weight l.elements.now)

abbrev pub decreases-follow_element : goal.decreases-follow_element
decreases-follow_element l = 2 * (l.scope.now.levels * greatest l.scope.now.approvals.now + weight_of_element l.element.now) + 1

abbrev pub decreases-follow_branch : goal.decreases-follow_branch
decreases-follow_branch l = 2 * (l.scope.now.levels * greatest l.scope.now.approvals.now + weight_of_branches l.branches.now)

abbrev pub decreases-follow_approval : goal.decreases-follow_approval
decreases-follow_approval l = 2 * (l.scope.now.levels * greatest l.scope.now.approvals.now)

abbrev pub invariant-follow_approval-loop-document : goal.invariant-follow_approval-loop-document
invariant-follow_approval-loop-document l = record {
  few : l.passed + length (choices_from l.scope.approvals.now l.scope.levels l.element l.number l.document-index) ≤ 65536;
  leads : (index : ℕ) (left : List Choice) → Leads (choices_from l.scope.approvals.now l.scope.levels l.element l.number l.document-index) l.steps index left
      → Leads (approval_choices l.scope.approvals.now l.scope.levels l.element) l.steps (l.passed + index) left;
  strays : (left : List Choice) → Strays (choices_from l.scope.approvals.now l.scope.levels l.element l.number l.document-index) l.steps left
      → Strays (approval_choices l.scope.approvals.now l.scope.levels l.element) l.steps left;
}

-- What is approved, whichever memory a policy lies in.
use Rattle.std.proofs.Common.{◌≡◌, ap, ◌∙◌}
use Rattle.std.specs.Prelude.{ℕ, List, Option}
use Rattle.tpol_fill.proofs.FilledErased.{faults_ignore_boxes, filled_ignores_boxes}
use Rattle.tpol_fill.specs.Filling.{fill_faults, filled}
use Rattle.tpol_name.specs.declared.sight.Sight.{Sight}
use Rattle.tpol_store.specs.Approvals.{approved_by, approver, unless_fault}
use Rattle.tpol_tree.specs.Erased.{erased_policy}
use Rattle.tpol_tree.specs.declared.policy.Policy.{Policy}
use Rattle.tpol_tree.specs.declared.wishes.ApprovalWish.{ApprovalWish}

pub approved_by_erased : (name : List ℕ) (policy : Policy) (sight : Option Sight) (wish : ApprovalWish) → approved_by name (erased_policy policy) sight wish ≡ approved_by name policy sight wish
unfolding approved_by
approved_by_erased name policy sight wish =
    ap (λ faults. unless_fault (approver wish sight) faults name (filled (erased_policy policy) sight)) (faults_ignore_boxes policy sight)
    ∙ ap (unless_fault (approver wish sight) (fill_faults policy sight) name) (filled_ignores_boxes policy sight)

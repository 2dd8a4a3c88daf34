-- Filling a document, and the digest of what is filled, whichever memory it lies in.
use Rattle.std.proofs.Common.{◌≡◌, ap, ◌∙◌}
use Rattle.std.specs.Prelude.{ℕ, List, Option}
use Rattle.tpol_digest.proofs.Erasures.{policy_digest-erased}
use Rattle.tpol_digest.specs.Digest.{policy_digest}
use Rattle.tpol_fill.proofs.FilledErased.{faults_ignore_boxes, filled_ignores_boxes}
use Rattle.tpol_fill.specs.Filling.{fill_faults, filled}
use Rattle.tpol_name.specs.declared.sight.Sight.{Sight}
use Rattle.tpol_steps.specs.Filled.{filled_step, unless_fault}
use Rattle.tpol_tree.specs.ClosedErased.{erased}
use Rattle.tpol_tree.specs.Erased.{erased_policy}
use Rattle.tpol_tree.specs.declared.closed.Closed.{Closed}
use Rattle.tpol_tree.specs.declared.policy.Policy.{Policy}

-- the step that fills
pub filled_step_erased : (document : Option (List ℕ)) (policy : Policy) (sight : Option Sight) → filled_step document (erased_policy policy) sight ≡ filled_step document policy sight
unfolding filled_step
filled_step_erased document policy sight =
    ap (λ faults. unless_fault document faults (filled (erased_policy policy) sight)) (faults_ignore_boxes policy sight)
    ∙ ap (unless_fault document (fill_faults policy sight)) (filled_ignores_boxes policy sight)

-- the digest
pub policy_digest_erased : (closed : Closed) → policy_digest (erased closed) ≡ policy_digest closed
policy_digest_erased = policy_digest-erased

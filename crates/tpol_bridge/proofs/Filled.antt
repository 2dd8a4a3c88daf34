-- What a policy is that was filled.
use Rattle.std.proofs.Common.{◌≡◌, List, [], ◌∷◌, Result, Ok, Err, None, ap, sym, ◌∙◌}
use Rattle.std.specs.Prelude.{Option}
use Rattle.tpol_fill.proofs.FilledErased.{filled_ignores_boxes}
use Rattle.tpol_fill.specs.Filling.{fill_faults, filled}
use Rattle.tpol_fill.specs.Outcome.{Fault}
use Rattle.tpol_name.specs.declared.sight.Sight.{Sight}
use Rattle.tpol_steps.specs.declared.answer.Answer.{Answer}
use Rattle.tpol_steps.specs.Filled.{filled_step, unless_fault}
use Rattle.tpol_tree.specs.Erased.{erased_policy}
use Rattle.tpol_tree.specs.declared.closed.Closed.{Closed}
use Rattle.tpol_tree.specs.declared.policy.Policy.{Policy}

abbrev closed_or : Closed → Result Closed Answer → Closed
closed_or other (Ok closed) = closed
closed_or other (Err answer) = other

without_fault : (faults : List Fault) (found closed : Closed) → unless_fault None faults found ≡ Ok closed → closed ≡ found
without_fault [] found closed h = ap (closed_or found) (sym h)
without_fault (fault ∷ faults) found closed h = ap (closed_or found) (sym h)

-- a policy that was filled, whichever memory it lies in
pub filled_is : (policy : Policy) (sight : Option Sight) (closed : Closed) → filled_step None (erased_policy policy) sight ≡ Ok closed → closed ≡ filled policy sight
unfolding filled_step
filled_is policy sight closed h =
    without_fault (fill_faults (erased_policy policy) sight) (filled (erased_policy policy) sight) closed h
    ∙ filled_ignores_boxes policy sight

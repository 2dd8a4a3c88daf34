-- Laws of filling.
use Rattle.std.specs.Prelude.{◌≡◌, Option}
use Rattle.tpol_fill.specs.Filling.{fill_faults, filled}
use Rattle.tpol_name.specs.declared.sight.Sight.{Sight}
use Rattle.tpol_tree.specs.declared.policy.Policy.{Policy}
use Rattle.tpol_tree.specs.Erased.{erased_policy}

-- ---- whichever memory a policy lies in

abbrev pub FilledIgnoresBoxes : Type 0
FilledIgnoresBoxes = (policy : Policy) (sight : Option Sight) → filled (erased_policy policy) sight ≡ filled policy sight

abbrev pub FaultsIgnoreBoxes : Type 0
FaultsIgnoreBoxes = (policy : Policy) (sight : Option Sight) → fill_faults (erased_policy policy) sight ≡ fill_faults policy sight

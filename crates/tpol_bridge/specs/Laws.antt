-- What holds of every document of the profile that is read as an export.
use Rattle.std.specs.Prelude.{◌≡◌, ℕ, List, Ok}
use Rattle.tpol_adopt.specs.Laws.{IsSublist}
use Rattle.tpol_bridge.specs.Exports.{Exported, export_step}
use Rattle.tpol_json.specs.declared.place.Place.{Place}
use Rattle.tpol_steps.specs.ReadStep.{read_step}
use Rattle.tpol_tree.specs.declared.policy.Policy.{Policy}

-- A document that says a policy says the same policy as an export, with some of the notes and no others.
abbrev pub KeepsPolicies : Type 0
KeepsPolicies =
    (input : List ℕ) (policy : Policy) (notes : List Place) → read_step input ≡ Ok (policy, notes)
    → (export : Exported) × (export_step input ≡ Ok export) × (export.policy ≡ policy) × IsSublist export.notes notes

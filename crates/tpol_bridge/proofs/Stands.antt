-- What an export says, some document stands for.
use Rattle.std.proofs.Common.{◌≡◌, ℕ, List, [], ◌∷◌, Some, None, Ok, Err, refl, ap, ◌∙◌}
use Rattle.std.specs.Prelude.{Option}
use Rattle.serde_json.specs.Data.{Data}
use Rattle.tpol_adopt.specs.Normal.{normal}
use Rattle.tpol_bridge.specs.Exports.{Exported, export_step, exported_in}
use Rattle.tpol_json.specs.Document.{document_of}
use Rattle.tpol_json.specs.declared.place.Place.{Place}
use Rattle.tpol_members.specs.Faults.{Fault, Found}
use Rattle.tpol_read.specs.Documents.{StandsForPolicy, policy_faults, policy_of}
use Rattle.tpol_steps.specs.ReadStep.{unless_refused}
use Rattle.tpol_steps.specs.Steps.{Step, ◌>>=◌}
use Rattle.tpol_tree.specs.declared.policy.Policy.{Policy}

abbrev Stood : Policy → Type 0
Stood policy = (d : Data) × (notes : List Place) × StandsForPolicy d policy notes

abbrev policy_or : Policy → Step Exported → Policy
policy_or other (Ok export) = export.policy
policy_or other (Err answer) = other

read_stood : (d : Data) (faults : List Fault) (found : Found (Policy × List Place)) (export : Exported) → policy_faults (normal d) ≡ faults → policy_of (normal d) ≡ found
    → (unless_refused faults found >>= λ read. Ok (record { document = d; policy = read.0; notes = read.1 })) ≡ Ok export → Stood export.policy
read_stood d [] (Ok found) export clear says is =
    let same : found.0 ≡ export.policy = ap (policy_or export.policy) is in
    (normal d, found.1, (clear, says ∙ ap (λ (policy : Policy). Ok (policy, found.1)) same))
read_stood d [] (Err fault) export clear says is = cc
read_stood d (fault ∷ faults) found export clear says is = cc

stood_in : (d : Option Data) (export : Exported) → exported_in d ≡ Ok export → Stood export.policy
stood_in None export is = cc
stood_in (Some d) export is = read_stood d (policy_faults (normal d)) (policy_of (normal d)) export refl refl is

pub stands : (input : List ℕ) (export : Exported) → export_step input ≡ Ok export → Stood export.policy
unfolding export_step
stands input export is = stood_in (document_of input) export is

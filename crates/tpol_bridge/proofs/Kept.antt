-- A document of the profile says the same policy as an export.
use Rattle.std.proofs.Common.{◌≡◌, List, [], ◌∷◌, Some, None, Ok, Err, refl, ap}
use Rattle.std.specs.Prelude.{Option}
use Rattle.serde_json.specs.Data.{Data}
use Rattle.tpol_adopt.proofs.Conservative.{conservative}
use Rattle.tpol_adopt.specs.Laws.{IsSublist}
use Rattle.tpol_adopt.specs.Normal.{normal}
use Rattle.tpol_bridge.specs.Exports.{Exported, export_step, exported_in}
use Rattle.tpol_bridge.specs.Laws.{KeepsPolicies}
use Rattle.tpol_json.specs.Document.{document_of}
use Rattle.tpol_json.specs.declared.place.Place.{Place}
use Rattle.tpol_members.specs.Faults.{Fault, Found}
use Rattle.tpol_read.proofs.FirstFault.{no_faults}
use Rattle.tpol_read.specs.Documents.{policy_faults, policy_of}
use Rattle.tpol_steps.specs.ReadStep.{read_document, read_step, unless_refused}
use Rattle.tpol_steps.specs.Steps.{Step}
use Rattle.tpol_tree.specs.declared.policy.Policy.{Policy}

abbrev read_or : Policy × List Place → Step (Policy × List Place) → Policy × List Place
read_or other (Ok read) = read
read_or other (Err answer) = other

-- what is read has no fault
read_found : (faults : List Fault) (found : Found (Policy × List Place)) (policy : Policy) (notes : List Place) → unless_refused faults found ≡ Ok (policy, notes) → found ≡ Ok (policy, notes)
read_found [] (Ok read) policy notes h = ap Ok (ap (read_or read) h)
read_found [] (Err fault) policy notes h = absurd (cc h)
read_found (fault ∷ faults) found policy notes h = absurd (cc h)

kept_in : (d : Option Data) (policy : Policy) (notes : List Place) → read_document d ≡ Ok (policy, notes)
    → (export : Exported) × (exported_in d ≡ Ok export) × (export.policy ≡ policy) × IsSublist export.notes notes
kept_in None policy notes h = absurd (cc h)
kept_in (Some d) policy notes h =
    let says = read_found (policy_faults d) (policy_of d) policy notes h in
    let kept = conservative d policy notes says in
    let clear = no_faults (normal d) (policy, kept.0) kept.1 in
    let export : Exported = record { document = d; policy = policy; notes = kept.0 } in
    (export, rw (clear, kept.1) refl, refl, kept.2)

pub keeps_policies : KeepsPolicies
unfolding read_step export_step
keeps_policies input policy notes h = kept_in (document_of input) policy notes h

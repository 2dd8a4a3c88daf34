-- The PCRs of a scene that is read are all there.
use Rattle.std.proofs.Common.{◌≡◌, ℕ, length, refl, ◌∙◌}
use Rattle.std.specs.Prelude.{⊤, codes}
use Rattle.std.proofs.lemmas.List.{length-set}
use Rattle.serde_json.specs.Data.{Data}
use Rattle.tpol_json.proofs.AllFound.{AllFound, all_then}
use Rattle.tpol_json.specs.declared.place.Place.{Place}
use Rattle.tpol_json.specs.Members.{optional}
use Rattle.tpol_entities.specs.Members.{needed}
use Rattle.tpol_entities.specs.Pcrs.{new_pcr_in, pcr_in, pcrs_in, zero_bank}
use Rattle.tpol_entities.specs.Values.{object_in, digest_in}
use Rattle.tpol_entities.specs.declared.pcrs.PcrBank.{PcrBank}
use Rattle.tpol_entities.proofs.ValueLemmas.{any_ok, optional_ok, list_ok}

-- each PCR has a value
abbrev pub IsWhole : PcrBank → Type 0
IsWhole bank = length bank.values ≡ 24

pcr_ok : (bank : PcrBank) (index : ℕ) (d : Data) (place : Place) → IsWhole bank → AllFound IsWhole (pcr_in bank index d place)
unfolding pcr_in
pcr_ok bank index d place whole =
    all_then (λ _. ⊤) IsWhole (object_in d place) _ (any_ok _) (λ is_object _.
    all_then (λ _. ⊤) IsWhole (needed (new_pcr_in bank) (codes "pcr") d place) _ (any_ok _) (λ pcr _.
    all_then (λ _. ⊤) IsWhole (needed digest_in (codes "digest") d place) _ (any_ok _) (λ digest _.
    length-set bank.values pcr digest ∙ whole)))

pub pcrs_ok : (d : Data) (place : Place) → AllFound IsWhole (optional pcrs_in zero_bank (codes "pcrs") d place)
pcrs_ok d place = optional_ok IsWhole pcrs_in zero_bank refl (list_ok IsWhole pcr_in pcr_ok zero_bank refl) (codes "pcrs") d place

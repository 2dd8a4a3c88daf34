-- The values of PCRs in a scene.
use Rattle.std.specs.Prelude.{ℕ, ◌==◌, [], ◌∷◌, ◌++◌, codes, replicate, slice_set, if◌then◌else◌, Ok}
use Rattle.std.specs.List.{list_any}
use Rattle.serde_json.specs.Data.{Data}
use Rattle.tpol_json.specs.declared.place.Place.{Place}
use Rattle.tpol_entities.specs.declared.pcrs.PcrBank.{PcrBank}
use Rattle.tpol_entities.specs.declared.fault.SceneKind.TheVariants.{Twice}
use Rattle.tpol_base.specs.Answers.{◌>>=◌}
use Rattle.tpol_entities.specs.Faults.{Found}
use Rattle.tpol_json.specs.Reading.{bad}
use Rattle.tpol_entities.specs.Lists.{ItemReading, list_in}
use Rattle.tpol_entities.specs.Members.{needed}
use Rattle.tpol_base.specs.Digest.{zero_digest}
use Rattle.tpol_entities.specs.Values.{object_in, unsigned_in, digest_in}

-- 24 zero digests, and no PCR that was given one
abbrev pub zero_bank : PcrBank
zero_bank = record { values = replicate 24 zero_digest; given = [] }

-- the number of a PCR that was not given before
abbrev pub new_pcr_in : PcrBank → Data → Place → Found ℕ
new_pcr_in bank d place = do
  pcr ← unsigned_in 0 23 d place
  if list_any (λ given. given == pcr) bank.given then bad Twice place else Ok pcr

-- an item of `pcrs`: a PCR and its value
unfoldable pub pcr_in : ItemReading PcrBank
pcr_in bank index d place = do
  is_object ← object_in d place
  pcr ← needed (new_pcr_in bank) (codes "pcr") d place
  digest ← needed digest_in (codes "digest") d place
  Ok (record { values = slice_set bank.values pcr digest; given = bank.given ++ pcr ∷ [] })

-- a list of PCRs with their values; the others are zero
abbrev pub pcrs_in : Data → Place → Found PcrBank
pcrs_in = list_in pcr_in zero_bank

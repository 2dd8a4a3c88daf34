-- The lines that the commands print.
use Rattle.std.specs.Prelude.{ℕ, List, ◌++◌, codes}
use Rattle.hex.specs.Hex.{encode_lower}
use Rattle.tpol_base.specs.declared.digest.Digest32.{Digest32}
use Rattle.tpol_json.specs.declared.place.Place.{Place}
use Rattle.tpol_json.specs.PlaceText.{text_of_place}

abbrev pub digest_line : Digest32 → List ℕ
digest_line digest = codes "digest " ++ encode_lower digest.bytes

abbrev pub note_line : Place → List ℕ
note_line place = codes "note " ++ text_of_place place

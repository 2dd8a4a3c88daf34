-- How documents write bytes.
use Rattle.std.specs.Prelude.{ℕ, suc, ℤ, pos, unsigned_abs, int_le, ◌&&◌, if◌then◌else◌, List, [], ◌∷◌, Option, Some, None, unwrap_or, Ok}
use Rattle.std.specs.Result.{result_ok}
use Rattle.hex.specs.Hex.{decode_of}
use Rattle.serde_json.specs.Data.{Data, null, boolean, number, string, array, object, Items, no_items, item}
use Rattle.tpol_json.specs.declared.fault.JsonKind.TheVariants.{WrongKind, BadHex, BadNumber}
use Rattle.tpol_json.specs.declared.place.Place.{Place}
use Rattle.tpol_json.specs.Numbers.{after_0x, whole_number}
use Rattle.tpol_json.specs.Places.{at_item}
use Rattle.tpol_base.specs.Answers.{◌>>=◌}
use Rattle.tpol_json.specs.Faults.{FoundValue}
use Rattle.tpol_json.specs.Reading.{bad}

-- the bytes of an even number of hexadecimal digits, with or without `0x` in front
abbrev pub bytes_of_text : List ℕ → Option (List ℕ)
bytes_of_text text = result_ok (decode_of (unwrap_or (after_0x text) text))

abbrev pub hex_or_bad : Option (List ℕ) → Place → FoundValue (List ℕ)
hex_or_bad None place = bad BadHex place
hex_or_bad (Some bytes) place = Ok bytes

abbrev pub byte_or_bad : Option ℤ → Place → FoundValue ℕ
byte_or_bad None place = bad BadNumber place
byte_or_bad (Some n) place =
    if int_le (pos 0) n && int_le n (pos 255) then Ok (unsigned_abs n) else bad BadNumber place

-- an item of a list of bytes: a number from 0 to 255, and all else is BadNumber there
abbrev pub byte_in : Data → Place → FoundValue ℕ
byte_in d place = byte_or_bad (whole_number d) place

-- the items of a list of bytes from this index on
unfoldable pub bytes_from : ℕ → Items → Place → FoundValue (List ℕ)
bytes_from index no_items place = Ok []
bytes_from index (item d ds) place = do
  byte ← byte_in d (at_item place index)
  bytes ← bytes_from (suc index) ds place
  Ok (byte ∷ bytes)

-- bytes: a hexadecimal text, or a list of numbers from 0 to 255
abbrev pub bytes_in : Data → Place → FoundValue (List ℕ)
bytes_in null place = bad WrongKind place
bytes_in (boolean b) place = bad WrongKind place
bytes_in (number n) place = bad WrongKind place
bytes_in (string s) place = hex_or_bad (bytes_of_text s) place
bytes_in (array ds) place = bytes_from 0 ds place
bytes_in (object ms) place = bad WrongKind place

-- How documents write whole numbers.
use Rattle.std.specs.Prelude.{ℕ, ℤ, pos, int_le, ◌&&◌, Bool, List, length, drop, codes, nat_eq, nat_le, if◌then◌else◌, Option, Some, None, option_and_then, Ok}
use Rattle.std.specs.Char.{is_digit}
use Rattle.std.specs.List.{list_all, starts_with}
use Rattle.std.specs.Str.Parse.{digits_value}
use Rattle.serde_json.specs.Data.{Data, null, boolean, number, string, array, object}
use Rattle.serde_json.specs.Find.{as_i64}
use Rattle.tpol_json.specs.declared.fault.JsonKind.TheVariants.{WrongKind, BadNumber}
use Rattle.tpol_json.specs.declared.place.Place.{Place}
use Rattle.tpol_json.specs.Faults.{FoundValue}
use Rattle.tpol_json.specs.Reading.{bad}

-- what follows `0x` at the front of a text
abbrev pub after_0x : List ℕ → Option (List ℕ)
after_0x text = if starts_with nat_eq text (codes "0x") then Some (drop 2 text) else None

-- a hexadecimal digit, in either case
abbrev pub is_hex_digit : ℕ → Bool
is_hex_digit c = is_digit c 16

-- what 1 to 15 hexadecimal digits write
abbrev pub number_of_digits : List ℕ → Option ℤ
number_of_digits digits =
    if nat_le 1 (length digits) && nat_le (length digits) 15 && list_all is_hex_digit digits
    then Some (pos (digits_value 16 digits)) else None

-- what a text of `0x` and 1 to 15 hexadecimal digits writes
abbrev pub number_of_text : List ℕ → Option ℤ
number_of_text text = option_and_then number_of_digits (after_0x text)

-- the whole number that a value writes: a JSON whole number of 64 bits with a sign, or a text as above
abbrev pub whole_number : Data → Option ℤ
whole_number null = None
whole_number (boolean b) = None
whole_number (number n) = as_i64 n
whole_number (string s) = number_of_text s
whole_number (array ds) = None
whole_number (object ms) = None

-- the number, if it lies within the limits
abbrev pub within : ℤ → ℤ → Option ℤ → Place → FoundValue ℤ
within least greatest None place = bad BadNumber place
within least greatest (Some n) place =
    if int_le least n && int_le n greatest then Ok n else bad BadNumber place

-- a whole number from least to greatest, written as a number or a text
abbrev pub number_in : ℤ → ℤ → Data → Place → FoundValue ℤ
number_in least greatest null place = bad WrongKind place
number_in least greatest (boolean b) place = bad WrongKind place
number_in least greatest (number n) place = within least greatest (whole_number (number n)) place
number_in least greatest (string s) place = within least greatest (whole_number (string s)) place
number_in least greatest (array ds) place = bad WrongKind place
number_in least greatest (object ms) place = bad WrongKind place

-- How documents write truth values and texts.
use Rattle.std.specs.Prelude.{ℕ, ℤ, pos, codes, Bool, true, false, ◌||◌, List, if◌then◌else◌, Option, Some, None, Ok}
use Rattle.std.specs.Ordering.{int_eq}
use Rattle.std.specs.Str.{str_eq_ignore_ascii_case}
use Rattle.serde_json.specs.Data.{Data, null, boolean, number, string, array, object}
use Rattle.tpol_json.specs.declared.fault.JsonKind.TheVariants.{WrongKind, BadNumber}
use Rattle.tpol_json.specs.declared.place.Place.{Place}
use Rattle.tpol_json.specs.Numbers.{whole_number}
use Rattle.tpol_json.specs.Faults.{FoundValue}
use Rattle.tpol_json.specs.Reading.{bad}

-- `true` and `YES`, `false` and `NO`, in any case
abbrev pub truth_of_word : List ℕ → Option Bool
truth_of_word s =
    if str_eq_ignore_ascii_case s (codes "true") || str_eq_ignore_ascii_case s (codes "YES") then Some true
    else if str_eq_ignore_ascii_case s (codes "false") || str_eq_ignore_ascii_case s (codes "NO") then Some false
    else None

-- 1 and 0
abbrev pub truth_of_number : Option ℤ → Place → FoundValue Bool
truth_of_number None place = bad BadNumber place
truth_of_number (Some n) place =
    if int_eq n (pos 1) then Ok true else if int_eq n (pos 0) then Ok false else bad BadNumber place

-- a word comes before a number
abbrev pub truth_of_text : Option Bool → Option ℤ → Place → FoundValue Bool
truth_of_text (Some truth) n place = Ok truth
truth_of_text None n place = truth_of_number n place

-- a truth value: a JSON one, one of those words, or the number 1 or 0, which may be a text of `0x` and digits
abbrev pub truth_in : Data → Place → FoundValue Bool
truth_in null place = bad WrongKind place
truth_in (boolean b) place = Ok b
truth_in (number n) place = truth_of_number (whole_number (number n)) place
truth_in (string s) place = truth_of_text (truth_of_word s) (whole_number (string s)) place
truth_in (array ds) place = bad WrongKind place
truth_in (object ms) place = bad WrongKind place

-- a text
abbrev pub text_in : Data → Place → FoundValue (List ℕ)
text_in null place = bad WrongKind place
text_in (boolean b) place = bad WrongKind place
text_in (number n) place = bad WrongKind place
text_in (string s) place = Ok s
text_in (array ds) place = bad WrongKind place
text_in (object ms) place = bad WrongKind place

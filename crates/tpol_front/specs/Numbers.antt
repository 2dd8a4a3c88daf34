-- Numbers as words.
use Rattle.std.specs.Prelude.{ℕ, ◌+◌, ◌-◌, ◌*◌, ◌^◌, ◌==◌, ◌&&◌, Bool, true, false, not, nat_le, nat_lt, List, [], ◌∷◌, Option, Some, None, if◌then◌else◌}

-- a decimal digit, by its code
abbrev pub is_digit : ℕ → Bool
is_digit code = nat_le 48 code && nat_le code 57

abbrev pub with_digit : ℕ → ℕ → ℕ
with_digit number code = number * 10 + (code - 48)

-- whether a number below 2^32 goes on with this digit
abbrev pub goes_on : ℕ → ℕ → Bool
goes_on number code = is_digit code && nat_lt (with_digit number code) (2 ^ 32)

-- a number, and the digits behind it
unfoldable pub number_from : ℕ → List ℕ → Option ℕ
number_from number [] = Some number
number_from number (code ∷ rest) = if goes_on number code then number_from (with_digit number code) rest else None

-- there is a digit, and no zero in front of another
abbrev pub is_numeral : List ℕ → Bool
is_numeral [] = false
is_numeral (code ∷ []) = true
is_numeral (code ∷ next ∷ rest) = not (code == 48)

-- the decimal number below 2^32 that a word is, without zeros in front
unfoldable pub number_of_word : List ℕ → Option ℕ
number_of_word word = if is_numeral word then number_from 0 word else None

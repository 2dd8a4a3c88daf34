-- Words and codes read back.
use Rattle.std.proofs.Common.{◌≡◌, ℕ, zero, suc, ◌+◌, ◌*◌, ◌/◌, ◌%◌, ◌^◌, ◌-◌, ◌<◌, ◌==◌, nat_le, Bool, true, false, ◌&&◌, ◌||◌, List, [], ◌∷◌, ◌++◌, codes, slice_index, Option, Some, None, unwrap_or, Ok, pos, refl, sym, ap, ◌∙◌, arith, if◌then◌else◌, eqb-true, unsigned_abs, le-leb, not}
use Rattle.std.proofs.lemmas.Bool.{and_parts, agree_below_at, and_from, cond-true}
use Rattle.std.proofs.lemmas.Nat.{from_be_bytes-to_be_bytes_4}
use Rattle.std.specs.Char.{digit_value, to_ascii_lowercase}
use Rattle.std.specs.Int.{to_be_bytes, from_be_bytes, w32}
use Rattle.std.specs.List.{list_all}
use Rattle.std.specs.Int.Digits.{number_from_digits_after}
use Rattle.std.specs.Str.Parse.{digits_value, digits_value_after}
use Rattle.std.specs.Str.{bytes_eq, str_to_ascii_lowercase}
use Rattle.hex.specs.Hex.{encode_lower, encode_with, lower_digits, IsBytes}
use Rattle.serde_json.specs.Data.{Data, string}
use Rattle.tpol_base.specs.declared.compare.Compare.{Compare}
use Rattle.tpol_base.specs.declared.compare.Compare.TheVariants.{Eq, Neq, SignedGt, UnsignedGt, SignedLt, UnsignedLt, SignedGe, UnsignedGe, SignedLe, UnsignedLe, BitSet, BitClear}
use Rattle.tpol_base.specs.CommandCode.{command_codes, find_name}
use Rattle.tpol_base.specs.Compare.{name_of_compare}
use Rattle.tpol_members.proofs.Limits.{Is32, code-fits}
use Rattle.tpol_write.proofs.BytesBack.{as_member}
use Rattle.tpol_json.specs.Numbers.{number_of_text, is_hex_digit, within}
use Rattle.tpol_json.specs.Reading as json
use Rattle.tpol_json.specs.declared.fault.JsonKind.TheVariants.{BadNumber}
use Rattle.tpol_json.specs.Words.{find_word, same_word}
use Rattle.tpol_json.specs.declared.place.Place.{Place}
use Rattle.tpol_json.proofs.AllFound.{AllFound, all_map}
use Rattle.tpol_base.specs.Answers.{◌>>=◌}
use Rattle.tpol_members.specs.Faults.{read_as}
use Rattle.tpol_members.specs.Operations.{operation_in, code_in}
use Rattle.tpol_members.specs.Values.{u32_in}
use Rattle.tpol_members.specs.Words.{found_or}
use Rattle.tpol_write.specs.Names.{code_text, name_or_digits}

-- ---- comparisons

pub operation_back : (operation : Compare) (place : Place) → operation_in (string (name_of_compare operation)) place ≡ Ok operation
unfolding find_word
operation_back Eq place = refl
operation_back Neq place = refl
operation_back SignedGt place = refl
operation_back UnsignedGt place = refl
operation_back SignedLt place = refl
operation_back UnsignedLt place = refl
operation_back SignedGe place = refl
operation_back UnsignedGe place = refl
operation_back SignedLe place = refl
operation_back UnsignedLe place = refl
operation_back BitSet place = refl
operation_back BitClear place = refl

abbrev Table : Type 0
Table = List (List ℕ × ℕ)

-- ---- names of codes

-- the table has this number under this name
abbrev is_named : Table → (List ℕ × ℕ) → Bool
is_named words word = unwrap_or (find_word (codes "TPM2_CC_") words word.0) (suc word.1) == word.1

abbrev all_named : Table → Table → Bool
all_named whole [] = true
all_named whole (word ∷ words) = is_named whole word && all_named whole words

some_by_test : (o : Option ℕ) (n : ℕ) → (unwrap_or o (suc n) == n) ≡ true → o ≡ Some n
some_by_test (Some m) n test = ap Some (eqb-true m n test)
some_by_test None n test = absurd (omega (arith, eqb-true (suc n) n test))

by_test : (Goal : Type 0) (test : Bool) (one name : List ℕ) (other : Option (List ℕ)) → (test ≡ true → one ≡ name → Goal) → (other ≡ Some name → Goal) → (if test then Some one else other) ≡ Some name → Goal
by_test Goal true one name other here later is = here refl (cc is)
by_test Goal false one name other here later is = later is

name-back : (whole words : Table) → all_named whole words ≡ true → (code : ℕ) (name : List ℕ) → find_name words code ≡ Some name → find_word (codes "TPM2_CC_") whole name ≡ Some code
unfolding find_name
name-back whole [] h code name is = cc is
name-back whole (word ∷ words) h code name is =
    let parts = and_parts (is_named whole word) (all_named whole words) h in
    by_test (find_word (codes "TPM2_CC_") whole name ≡ Some code) (word.1 == code) word.0 name (find_name words code)
    (λ same this.
    ap (find_word (codes "TPM2_CC_") whole) (sym this) ∙ some_by_test (find_word (codes "TPM2_CC_") whole word.0) word.1 parts.0 ∙ ap Some (eqb-true word.1 code same))
    (name-back whole words parts.1 code name) is

-- each name of a command stands for the code beside it
all_named-commands : all_named command_codes command_codes ≡ true
unfolding find_word
all_named-commands = refl

-- ---- digits of codes

-- each digit of the table is one, and worth its place
digit_there : (k : ℕ) → k < 16 → is_hex_digit (slice_index lower_digits k) ≡ true
digit_there k small = agree_below_at (λ i. is_hex_digit (slice_index lower_digits i)) (λ i. true) 16 k refl small

digit_worth : (k : ℕ) → k < 16 → digit_value (slice_index lower_digits k) ≡ k
digit_worth k small =
    eqb-true (digit_value (slice_index lower_digits k)) k
    (agree_below_at (λ i. digit_value (slice_index lower_digits i) == i) (λ i. true) 16 k refl small)

all_digits : (bytes : List ℕ) → IsBytes bytes → list_all is_hex_digit (encode_lower bytes) ≡ true
unfolding encode_with
all_digits [] are = refl
all_digits (b ∷ bytes) are =
    let small : b < 256 = are 0 in
    and_from (is_hex_digit (slice_index lower_digits (b / 16))) _ (digit_there (b / 16) (omega arith))
    (and_from (is_hex_digit (slice_index lower_digits (b % 16))) _ (digit_there (b % 16) (omega arith)) (all_digits bytes (λ i. are (suc i))))

-- the digits of bytes write what the bytes do
digits_of_bytes : (n : ℕ) (bytes : List ℕ) → IsBytes bytes → digits_value_after 16 n (encode_lower bytes) ≡ number_from_digits_after 256 n bytes
unfolding encode_with
digits_of_bytes n [] are = refl
digits_of_bytes n (b ∷ bytes) are =
    let small : b < 256 = are 0 in
    let high = digit_worth (b / 16) (omega arith) in
    let low = digit_worth (b % 16) (omega arith) in
    let step : (n * 16 + digit_value (slice_index lower_digits (b / 16))) * 16 + digit_value (slice_index lower_digits (b % 16)) ≡ n * 256 + b =
    rw (high, low) (omega arith) in
    ap (λ m. digits_value_after 16 m (encode_lower bytes)) step ∙ digits_of_bytes (n * 256 + b) bytes (λ i. are (suc i))

bytes_of_code : (code : ℕ) → IsBytes (to_be_bytes w32 code)
bytes_of_code code zero = omega arith
bytes_of_code code (suc zero) = omega arith
bytes_of_code code (suc (suc zero)) = omega arith
bytes_of_code code (suc (suc (suc zero))) = omega arith
bytes_of_code code (suc (suc (suc (suc i)))) = omega arith

four_bytes : (a b c d : ℕ) → number_from_digits_after 256 0 (a ∷ b ∷ c ∷ d ∷ []) ≡ from_be_bytes w32 (a ∷ b ∷ c ∷ d ∷ [])
four_bytes a b c d = omega arith

code_value : (code : ℕ) → Is32 code → digits_value 16 (encode_lower (to_be_bytes w32 code)) ≡ code
code_value code small =
    digits_of_bytes 0 (to_be_bytes w32 code) (bytes_of_code code) ∙ four_bytes _ _ _ _ ∙ from_be_bytes-to_be_bytes_4 code small

abbrev digits_text : ℕ → List ℕ
digits_text code = codes "0x" ++ encode_lower (to_be_bytes w32 code)

code_number : (code : ℕ) → Is32 code → number_of_text (digits_text code) ≡ Some (pos code)
unfolding encode_with
code_number code small =
    cond-true (list_all is_hex_digit (encode_lower (to_be_bytes w32 code))) (Some (pos (digits_value 16 (encode_lower (to_be_bytes w32 code))))) None
    (all_digits (to_be_bytes w32 code) (bytes_of_code code))
    ∙ ap (λ n. Some (pos n)) (code_value code small)

digits-back : (code : ℕ) (place : Place) → Is32 code → u32_in (string (digits_text code)) place ≡ Ok code
digits-back code place small =
    ap (λ o. read_as (as_member (within (pos 0) (pos (2 ^ 32 - 1)) o place) >>= λ n. Ok (unsigned_abs n))) (code_number code small)
    ∙ ap (λ r. read_as (as_member r >>= λ n. Ok (unsigned_abs n)))
    (cond-true (nat_le 0 code && nat_le code (2 ^ 32 - 1)) (Ok (pos code)) (json.bad BadNumber place)
    (and_from (nat_le 0 code) (nat_le code (2 ^ 32 - 1)) (le-leb 0 code (omega arith)) (le-leb code (2 ^ 32 - 1) (omega arith))))

-- ---- digits are none of the names

-- a word with another first character than `0`
abbrev begins_otherwise : List ℕ → Bool
begins_otherwise [] = false
begins_otherwise (c ∷ cs) = not (48 == to_ascii_lowercase c)

abbrev all_begin_otherwise : Table → Bool
all_begin_otherwise [] = true
all_begin_otherwise (word ∷ words) = begins_otherwise word.0 && all_begin_otherwise words

false_of_not : (b : Bool) → not b ≡ true → b ≡ false
false_of_not true h = cc h
false_of_not false h = refl

another_word : (rest word : List ℕ) → begins_otherwise word ≡ true → same_word (48 ∷ rest) (codes "TPM2_CC_") word ≡ false
another_word rest [] h = refl
another_word rest (c ∷ cs) h =
    ap (λ b. (b && bytes_eq (str_to_ascii_lowercase rest) (str_to_ascii_lowercase cs)) || false) (false_of_not (48 == to_ascii_lowercase c) h)

no_word : (words : Table) (rest : List ℕ) → all_begin_otherwise words ≡ true → find_word (codes "TPM2_CC_") words (48 ∷ rest) ≡ None
unfolding find_word
no_word [] rest h = refl
no_word (word ∷ words) rest h =
    let parts = and_parts (begins_otherwise word.0) (all_begin_otherwise words) h in
    ap (λ b. if b then Some word.1 else find_word (codes "TPM2_CC_") words (48 ∷ rest)) (another_word rest word.0 parts.0)
    ∙ no_word words rest parts.1

-- ---- a code

text-back : (found : Option (List ℕ)) (code : ℕ) (place : Place) → Is32 code → find_name command_codes code ≡ found → code_in (string (name_or_digits found code)) place ≡ Ok code
text-back (Some name) code place small is =
    ap (λ o. found_or o (u32_in (string name) place)) (name-back command_codes command_codes all_named-commands code name is)
text-back None code place small is =
    ap (λ o. found_or o (u32_in (string (digits_text code)) place)) (no_word command_codes (120 ∷ encode_lower (to_be_bytes w32 code)) refl)
    ∙ digits-back code place small

-- the code that a document writes reads back from its name or its digits
pub code_back : (d : Data) (place : Place) → AllFound (λ code. (other : Place) → code_in (string (code_text code)) other ≡ Ok code) (code_in d place)
code_back d place =
    all_map Is32 (λ code. (other : Place) → code_in (string (code_text code)) other ≡ Ok code) (code_in d place) (code-fits d place)
    (λ code small other. text-back (find_name command_codes code) code other small refl)

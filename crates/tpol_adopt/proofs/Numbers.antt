-- FAPI's spelling of attributes and localities becomes their number.
use Rattle.std.proofs.Common.{◌≡◌, ℕ, zero, suc, ◌+◌, ◌*◌, ◌^◌, ◌<◌, ◌≤◌, ◌==◌, ◌||◌, ◌&&◌, max, bit_or, List, [], ◌∷◌, ◌++◌, Option, Some, None, option_and_then, codes, Bool, true, false, refl, sym, ap, ◌∙◌, subst, arith, if◌then◌else◌}
use Rattle.std.proofs.lemmas.Bool.{eqb-false, eqb-true, le-leb}
use Rattle.std.proofs.lemmas.Nat.Bits.{bit_at-lt, bit_at-pow_other, bit_at-pow_same, bit_at-zero, bit_at_cat_low, bit_at_or, same_from_bits}
use Rattle.std.specs.Int.{bit_at}
use Rattle.std.specs.List.{list_all}
use Rattle.std.specs.Str.{bytes_eq}
use Rattle.serde_json.specs.Data.{Data, number, string, object, unsigned, Members, no_members, member}
use Rattle.tpol_adopt.specs.Edits.{number_or}
use Rattle.tpol_adopt.specs.Flags.{bits_from, bits_of_flag, bits_of_member, count_in, index_types}
use Rattle.tpol_adopt.specs.Laws.{IndexNumbers, LocalityNumbers, ObjectNumbers, Positions, first_index_bits, index_spelling, is_position, last_index_bits, locality_bits, object_bits, spelled, SameElsewhere}
use Rattle.tpol_adopt.specs.Words.{meaning_of_word}
use Rattle.tpol_adopt.specs.declared.flags.Flags.{Flags}
use Rattle.tpol_adopt.specs.declared.flags.Flags.TheVariants.{OfIndex, OfObject, OfLocality}

-- a bit as a flag's number
flag_of_bit : (flag v : ℕ) → v < 2 → bits_of_flag flag (Some v) ≡ Some (v * flag)
flag_of_bit flag zero small = let none : 0 ≡ zero * flag = omega arith in ap Some none
flag_of_bit flag (suc zero) small = let one : flag ≡ suc zero * flag = omega arith in ap Some one
flag_of_bit flag (suc (suc v)) small = absurd (omega arith)

-- these members are flags
AllKnown : Flags → Positions → Type 0
AllKnown flags [] = Unit {0}
AllKnown flags (row ∷ rows) = ((d : Data) → bits_of_member flags row.0 d ≡ bits_of_flag (2 ^ row.1) (count_in d)) × AllKnown flags rows

first_known : AllKnown OfIndex first_index_bits
unfolding AllKnown bits_of_member meaning_of_word
first_known = (
  λ d. refl,
  (
    λ d. refl,
    (
      λ d. refl,
      (
        λ d. refl,
        (
          λ d. refl,
          (
            λ d. refl,
            (
              λ d. refl,
              (
                λ d. refl,
                (λ d. refl, (λ d. refl, (λ d. refl, (λ d. refl, (λ d. refl, (λ d. refl, (λ d. refl, (λ d. refl, tt {0})))))))),
              ),
            ),
          ),
        ),
      ),
    ),
  ),
)

last_known : AllKnown OfIndex last_index_bits
unfolding AllKnown bits_of_member meaning_of_word
last_known = (λ d. refl, (λ d. refl, (λ d. refl, (λ d. refl, (λ d. refl, tt {0})))))

object_known : AllKnown OfObject object_bits
unfolding AllKnown bits_of_member meaning_of_word
object_known = (
  λ d. refl,
  (
    λ d. refl,
    (
      λ d. refl,
      (
        λ d. refl,
        (
          λ d. refl,
          (
            λ d. refl,
            (
              λ d. refl,
              (
                λ d. refl,
                (
                  λ d. refl,
                  (
                    λ d. refl,
                    (λ d. refl, tt {0}),
                  ),
                ),
              ),
            ),
          ),
        ),
      ),
    ),
  ),
)

locality_known : AllKnown OfLocality locality_bits
unfolding AllKnown bits_of_member meaning_of_word
locality_known = (λ d. refl, (λ d. refl, (λ d. refl, (λ d. refl, (λ d. refl, tt {0})))))

-- the number with these bits of another
abbrev with_bits : Positions → ℕ → ℕ → ℕ
with_bits [] n bits = bits
with_bits (row ∷ rows) n bits = with_bits rows n (bit_or bits (bit_at n row.1 * 2 ^ row.1))

bits_from-spelled : (flags : Flags) (rows : Positions) → AllKnown flags rows → (n bits : ℕ) (ms : Members) → bits_from flags bits (spelled rows n ms) ≡ bits_from flags (with_bits rows n bits) ms
unfolding AllKnown bits_from
bits_from-spelled flags [] known n bits ms = refl
bits_from-spelled flags (row ∷ rows) known n bits ms =
    ap (option_and_then (λ more. bits_from flags (bit_or bits more) (spelled rows n ms))) (known.0 (number (unsigned (bit_at n row.1))) ∙ flag_of_bit (2 ^ row.1) (bit_at n row.1) (bit_at-lt n row.1))
    ∙ bits_from-spelled flags rows known.1 n (bit_or bits (bit_at n row.1 * 2 ^ row.1)) ms

-- ---- bit by bit

one_bit : (v k i : ℕ) → v < 2 → (test : Bool) → (k == i) ≡ test → bit_at (v * 2 ^ k) i ≡ (if test then v else 0)
one_bit zero k i small true is = let none : zero * 2 ^ k ≡ 0 = omega arith in ap (λ m. bit_at m i) none ∙ bit_at-zero i
one_bit zero k i small false is = let none : zero * 2 ^ k ≡ 0 = omega arith in ap (λ m. bit_at m i) none ∙ bit_at-zero i
one_bit (suc zero) k i small true is =
    let one : suc zero * 2 ^ k ≡ 2 ^ k = omega arith in
    ap (λ m. bit_at m i) one ∙ subst (λ j. bit_at (2 ^ k) j ≡ 1) (eqb-true k i is) (bit_at-pow_same k)
one_bit (suc zero) k i small false is =
    let one : suc zero * 2 ^ k ≡ 2 ^ k = omega arith in
    ap (λ m. bit_at m i) one ∙ bit_at-pow_other k i (λ same. eqb-false k i is (sym same))
one_bit (suc (suc v)) k i small test is = absurd (omega arith)

abbrev bit_where : Bool → ℕ → ℕ
bit_where test v = if test then v else 0

joined : (x y : Bool) (a v : ℕ) → max (max a (bit_where x v)) (bit_where y v) ≡ max a (bit_where (x || y) v)
joined true true a v = omega arith
joined true false a v = omega arith
joined false true a v = omega arith
joined false false a v = omega arith

-- the same position after one value of `n`'s bit
where_same : (test : Bool) (k n i : ℕ) → (k == i) ≡ test → bit_where test (bit_at n k) ≡ bit_where test (bit_at n i)
where_same true k n i is = ap (bit_at n) (eqb-true k i is)
where_same false k n i is = refl

bit_of_row : (n k i : ℕ) → bit_at (bit_at n k * 2 ^ k) i ≡ bit_where (k == i) (bit_at n i)
bit_of_row n k i = one_bit (bit_at n k) k i (bit_at-lt n k) (k == i) refl ∙ where_same (k == i) k n i refl

bit_at-with_bits : (rows : Positions) (n bits i : ℕ) → bit_at (with_bits rows n bits) i ≡ max (bit_at bits i) (bit_where (is_position i rows) (bit_at n i))
bit_at-with_bits [] n bits i = omega arith
bit_at-with_bits (row ∷ rows) n bits i =
    bit_at-with_bits rows n (bit_or bits (bit_at n row.1 * 2 ^ row.1)) i
    ∙ ap (λ b. max b (bit_where (is_position i rows) (bit_at n i))) (bit_at_or bits (bit_at n row.1 * 2 ^ row.1) i ∙ ap (max (bit_at bits i)) (bit_of_row n row.1 i))
    ∙ joined (row.1 == i) (is_position i rows) (bit_at bits i) (bit_at n i)

-- a number that has none of these bits
AllClear : Positions → ℕ → Type 0
AllClear [] n = Unit {0}
AllClear (row ∷ rows) n = (bit_at n row.1 ≡ 0) × AllClear rows n

clear_at : (rows : Positions) (n i : ℕ) → AllClear rows n → is_position i rows ≡ true → bit_at n i ≡ 0
unfolding AllClear
clear_at [] n i clear is = cc
clear_at (row ∷ rows) n i clear is = by_test (row.1 == i) refl (clear_at rows n i clear.1)
  where
    by_test : (test : Bool) → (row.1 == i) ≡ test → (is_position i rows ≡ true → bit_at n i ≡ 0) → bit_at n i ≡ 0
    by_test true same later = subst (λ j. bit_at n j ≡ 0) (eqb-true row.1 i same) clear.0
    by_test false other later = later (ap (λ b. b || is_position i rows) (sym other) ∙ is)

-- bits elsewhere, and bits at the positions
one_of_both : (test : Bool) (v other : ℕ) → (test ≡ false → v ≡ other) → (test ≡ true → other ≡ 0) → max other (bit_where test v) ≡ v
one_of_both true v other elsewhere here = let none : other ≡ 0 = here refl in omega arith
one_of_both false v other elsewhere here = let same : v ≡ other = elsewhere refl in omega arith

-- where the other number has none of these bits, the number with them is the whole one
all_bits : (rows : Positions) (n other : ℕ) → AllClear rows other → SameElsewhere rows n other → with_bits rows n other ≡ n
all_bits rows n other clear same =
    same_from_bits (with_bits rows n other) n
    (λ i. bit_at-with_bits rows n other i ∙ one_of_both (is_position i rows) (bit_at n i) (bit_at other i) (same i) (clear_at rows other i clear))

or_none : (n : ℕ) → bit_or 0 n ≡ n
or_none n = same_from_bits (bit_or 0 n) n (λ i. let e = bit_at_or 0 n i in let z = bit_at-zero i in omega arith)

-- ---- objects and localities

pub object_numbers : ObjectNumbers
unfolding bits_from AllClear
object_numbers n same =
    ap (λ o. number_or o (object (spelled object_bits n no_members)))
    (bits_from-spelled OfObject object_bits object_known n 0 no_members
    ∙ ap Some (all_bits object_bits n 0 (refl, (refl, (refl, (refl, (refl, (refl, (refl, (refl, (refl, (refl, (refl, tt {0}))))))))))) same))

extended_clear : (extended k : ℕ) → k < 5 → bit_at (extended * 2 ^ 5) k ≡ 0
extended_clear extended k low =
    let plain : extended * 2 ^ 5 ≡ extended * 2 ^ 5 + 0 = omega arith in
    ap (λ m. bit_at m k) plain ∙ bit_at_cat_low extended 5 0 k low ∙ bit_at-zero k

extended_bits : (extended : ℕ) → extended ≤ 7 → bits_of_member OfLocality (codes "Extended") (number (unsigned extended)) ≡ Some (extended * 2 ^ 5)
unfolding bits_of_member
extended_bits extended low = ap (λ b. if b then Some (extended * 2 ^ 5) else None) (le-leb extended 7 low)

pub locality_numbers : LocalityNumbers
unfolding bits_from AllClear
locality_numbers n extended low same =
    let whole = object (member (codes "Extended") (number (unsigned extended)) (spelled locality_bits n no_members)) in
    ap (λ o. number_or o whole)
    (ap (option_and_then (λ more. bits_from OfLocality (bit_or 0 more) (spelled locality_bits n no_members))) (extended_bits extended low)
    ∙ bits_from-spelled OfLocality locality_bits locality_known n (bit_or 0 (extended * 2 ^ 5)) no_members
    ∙ ap Some (ap (with_bits locality_bits n) (or_none (extended * 2 ^ 5))
    ∙ all_bits locality_bits n (extended * 2 ^ 5)
    (extended_clear extended 4 (omega arith), (extended_clear extended 1 (omega arith), (extended_clear extended 3 (omega arith), (extended_clear extended 2 (omega arith), (extended_clear extended 0 (omega arith), tt {0}))))) same))

-- ---- indices

type_bits : (type : List ℕ) (bits : ℕ) → meaning_of_word index_types type ≡ Some bits → bits_of_member OfIndex (codes "TPM2_NT") (string type) ≡ Some bits
unfolding bits_of_member
type_bits type bits is = is

-- no type has a flag's bit
abbrev is_clear : Positions → ℕ → Bool
is_clear rows n = list_all (λ row. bit_at n row.1 == 0) rows

both : (x y : Bool) → (x && y) ≡ true → (x ≡ true) × (y ≡ true)
both true y is = (refl, is)
both false y is = cc

clear_of_test : (rows : Positions) (n : ℕ) → is_clear rows n ≡ true → AllClear rows n
unfolding AllClear
clear_of_test [] n is = tt {0}
clear_of_test (row ∷ rows) n is =
    let parts = both (bit_at n row.1 == 0) (is_clear rows n) is in (eqb-true (bit_at n row.1) 0 parts.0, clear_of_test rows n parts.1)

meaning_passes : (test : ℕ → Bool) (words : List (List ℕ × ℕ)) (text : List ℕ) (bits : ℕ) → list_all (λ word. test word.1) words ≡ true → meaning_of_word words text ≡ Some bits → test bits ≡ true
unfolding meaning_of_word
meaning_passes test [] text bits all is = cc
meaning_passes test (word ∷ words) text bits all is =
    let parts = both (test word.1) (list_all (λ word. test word.1) words) all in
    here (bytes_eq word.0 text) word.1 (meaning_of_word words text) bits test parts.0 (meaning_passes test words text bits parts.1) is
  where
    here : (same : Bool) (meaning : ℕ) (later : Option ℕ) (bits : ℕ) (test : ℕ → Bool) → test meaning ≡ true → (later ≡ Some bits → test bits ≡ true) → (if same then Some meaning else later) ≡ Some bits → test bits ≡ true
    here true meaning later bits test passes rest is = let same : meaning ≡ bits = cc in subst (λ b. test b ≡ true) same passes
    here false meaning later bits test passes rest is = rest is

abbrev all_index_bits : Positions
all_index_bits = first_index_bits ++ last_index_bits

type_clear : (type : List ℕ) (bits : ℕ) → meaning_of_word index_types type ≡ Some bits → AllClear all_index_bits bits
type_clear type bits is = clear_of_test all_index_bits bits (meaning_passes (is_clear all_index_bits) index_types type bits refl is)

-- the bits before the type and those after it, together
with_bits-append : (rows more : Positions) (n bits : ℕ) → with_bits more n (with_bits rows n bits) ≡ with_bits (rows ++ more) n bits
with_bits-append [] more n bits = refl
with_bits-append (row ∷ rows) more n bits = with_bits-append rows more n (bit_or bits (bit_at n row.1 * 2 ^ row.1))

-- the order of the type and of the bits before it is free
with_bits-or : (rows : Positions) (n bits : ℕ) → bit_or (with_bits rows n 0) bits ≡ with_bits rows n bits
with_bits-or rows n bits =
    same_from_bits (bit_or (with_bits rows n 0) bits) (with_bits rows n bits)
    (λ i. bit_at_or (with_bits rows n 0) bits i
    ∙ ap (λ b. max b (bit_at bits i)) (bit_at-with_bits rows n 0 i ∙ ap (λ b. max b (bit_where (is_position i rows) (bit_at n i))) (bit_at-zero i))
    ∙ turned (bit_where (is_position i rows) (bit_at n i)) (bit_at bits i) ∙ sym (bit_at-with_bits rows n bits i))
  where
    turned : (a b : ℕ) → max (max 0 a) b ≡ max b a
    turned a b = omega arith

pub index_numbers : IndexNumbers
unfolding bits_from
index_numbers n type bits is same =
    let rest = member (codes "TPM2_NT") (string type) (spelled last_index_bits n no_members) in
    ap (λ o. number_or o (index_spelling n type))
    (bits_from-spelled OfIndex first_index_bits first_known n 0 rest
    ∙ ap (option_and_then (λ more. bits_from OfIndex (bit_or (with_bits first_index_bits n 0) more) (spelled last_index_bits n no_members))) (type_bits type bits is)
    ∙ bits_from-spelled OfIndex last_index_bits last_known n (bit_or (with_bits first_index_bits n 0) bits) no_members
    ∙ ap Some (ap (with_bits last_index_bits n) (with_bits-or first_index_bits n bits) ∙ with_bits-append first_index_bits last_index_bits n bits ∙ all_bits all_index_bits n bits (type_clear type bits is) same))

-- The order of numbers in two's complement.
use Rattle.std.proofs.Common.{◌≡◌, ℕ, ◌^◌, ◌<◌, Bool, true, false, true≢false, List, length, refl, sym, ap, ◌∙◌, arith}
use mathlib.Core.Bool.{beq}
use Rattle.std.specs.Prelude.{not, ℤ, pos, ◌-ℤ◌, if◌then◌else◌}
use Rattle.std.proofs.lemmas.Int.{ints}
use Rattle.std.specs.declared.cmp.Ordering.{Ordering}
use Rattle.std.specs.declared.cmp.Ordering.TheVariants.{Less, Equal, Greater}
use Rattle.std.specs.Ordering.{nat_cmp, int_cmp, MatchOrdering}
use Rattle.std.specs.Cmp.{ranked, int_cmp_is}
use Rattle.tpm_pcr.specs.Comparison.{is_negative, signed_number, signed_order, unsigned_number, unsigned_order}
use Rattle.tpm_pcr.proofs.Orders.{AreBytes, unsigned_number-lt}

-- two tests that differ, and two that agree
pub other_test : (x y : Bool) → beq x y ≡ false → not x ≡ y
other_test true true h = absurd (true≢false h)
other_test true false h = refl
other_test false true h = refl
other_test false false h = absurd (true≢false h)

pub same_test : (x y : Bool) → beq x y ≡ true → x ≡ y
same_test true true h = refl
same_test true false h = absurd (true≢false (sym h))
same_test false true h = absurd (true≢false (sym h))
same_test false false h = refl

-- a number as one of two's complement
abbrev as_signed : Bool → ℕ → ℕ → ℤ
as_signed negative number power = if negative then pos number -ℤ pos power else pos number

-- a negative number is less
pub negative_first : (n m power power' : ℕ) → n < power → Less ≡ int_cmp (as_signed true n power) (as_signed false m power')
negative_first n m power power' below = int_cmp_is (pos n -ℤ pos power) (pos m) Less (omega (arith, ints))

pub negative_second : (n m power power' : ℕ) → m < power' → Greater ≡ int_cmp (as_signed false n power) (as_signed true m power')
negative_second n m power power' below = int_cmp_is (pos n) (pos m -ℤ pos power') Greater (omega (arith, ints))

-- among numbers of one sign the order is that of unsigned numbers
pub one_sign : (negative : Bool) (n m power power' : ℕ) → power ≡ power' → nat_cmp n m ≡ int_cmp (as_signed negative n power) (as_signed negative m power')
one_sign negative n m power power' same = by negative (nat_cmp n m) (ranked n m (nat_cmp n m) refl)
  where
    by : (negative : Bool) (r : Ordering) → MatchOrdering r (n < m) (n ≡ m) (m < n) → r ≡ int_cmp (as_signed negative n power) (as_signed negative m power')
    by true Less h = int_cmp_is (pos n -ℤ pos power) (pos m -ℤ pos power') Less (omega (arith, ints))
    by true Equal h = int_cmp_is (pos n -ℤ pos power) (pos m -ℤ pos power') Equal (omega (arith, ints))
    by true Greater h = int_cmp_is (pos n -ℤ pos power) (pos m -ℤ pos power') Greater (omega (arith, ints))
    by false Less h = int_cmp_is (pos n) (pos m) Less (omega (arith, ints))
    by false Equal h = int_cmp_is (pos n) (pos m) Equal (omega (arith, ints))
    by false Greater h = int_cmp_is (pos n) (pos m) Greater (omega (arith, ints))

pub signs_differ : (a b : List ℕ) → AreBytes a → true ≡ is_negative a → false ≡ is_negative b → Less ≡ signed_order a b
signs_differ a b fits negative other =
    negative_first (unsigned_number a) (unsigned_number b) (256 ^ length a) (256 ^ length b) (unsigned_number-lt a fits)
    ∙ (λ i. int_cmp (as_signed (negative i) (unsigned_number a) (256 ^ length a)) (as_signed (other i) (unsigned_number b) (256 ^ length b)))

pub signs_differ' : (a b : List ℕ) → AreBytes b → false ≡ is_negative a → true ≡ is_negative b → Greater ≡ signed_order a b
signs_differ' a b fits other negative =
    negative_second (unsigned_number a) (unsigned_number b) (256 ^ length a) (256 ^ length b) (unsigned_number-lt b fits)
    ∙ (λ i. int_cmp (as_signed (other i) (unsigned_number a) (256 ^ length a)) (as_signed (negative i) (unsigned_number b) (256 ^ length b)))

pub signs_agree : (a b : List ℕ) → length a ≡ length b → is_negative a ≡ is_negative b → unsigned_order a b ≡ signed_order a b
signs_agree a b long same =
    one_sign (is_negative a) (unsigned_number a) (unsigned_number b) (256 ^ length a) (256 ^ length b) (ap (λ k. 256 ^ k) long)
    ∙ (λ i. int_cmp (signed_number a) (as_signed (same i) (unsigned_number b) (256 ^ length b)))

-- The order of big-endian numbers is that of their bytes.
use Rattle.std.proofs.Common.{◌≡◌, ℕ, suc, ◌+◌, ◌*◌, ◌^◌, ◌<◌, ◌≤◌, List, [], ◌∷◌, length, get_or, refl, sym, ap, subst, ◌∙◌, arith}
use Rattle.std.proofs.Math.Nat.{mul-le-mul_right, pow-succ'}
use Rattle.std.specs.declared.cmp.Ordering.{Ordering}
use Rattle.std.specs.declared.cmp.Ordering.TheVariants.{Less, Equal, Greater}
use Rattle.std.specs.Ordering.{nat_cmp, ordering_then, MatchOrdering}
use Rattle.std.specs.Cmp.{ranked, nat_cmp_is}
use Rattle.std.specs.Cmp.Lexicographic.{slice_cmp}
use Rattle.tpm_pcr.specs.Comparison.{unsigned_number, unsigned_order}

abbrev pub AreBytes : List ℕ → Type 0
AreBytes bytes = (i : ℕ) → get_or bytes i 0 < 256

-- bytes are below the next power
pub unsigned_number-lt : (bytes : List ℕ) → AreBytes bytes → unsigned_number bytes < 256 ^ length bytes
unsigned_number-lt [] fits = omega arith
unsigned_number-lt (byte ∷ bytes) fits =
    let power = 256 ^ length bytes in
    let first : byte < 256 = fits 0 in
    let rest : unsigned_number bytes < power = unsigned_number-lt bytes (λ i. fits (suc i)) in
    let most : (byte + 1) * power ≤ 256 * power = mul-le-mul_right power (omega arith) in
    let next : 256 ^ suc (length bytes) ≡ 256 * power = pow-succ' 256 (length bytes) in
    omega arith

-- a smaller first digit decides
smaller : (x y power n m : ℕ) → x < y → n < power → x * power + n < y * power + m
smaller x y power n m less below =
    let most : (x + 1) * power ≤ y * power = mul-le-mul_right power (omega arith) in
    omega arith

-- the same first digit leaves it to the rest
same_digit : (x y power n m : ℕ) (r : Ordering) → x ≡ y → MatchOrdering r (n < m) (n ≡ m) (m < n) → r ≡ nat_cmp (x * power + n) (y * power + m)
same_digit x y power n m r same rest =
    let equal : x * power ≡ y * power = ap (λ k. k * power) same in
    nat_cmp_is (x * power + n) (y * power + m) r (by r rest equal)
  where
    by : (r : Ordering) → MatchOrdering r (n < m) (n ≡ m) (m < n) → x * power ≡ y * power
        → MatchOrdering r (x * power + n < y * power + m) (x * power + n ≡ y * power + m) (y * power + m < x * power + n)
    by Less h e = omega arith
    by Equal h e = omega arith
    by Greater h e = omega arith

first_digit : (x y power n m : ℕ) (r s : Ordering) → r ≡ nat_cmp x y → s ≡ nat_cmp n m → n < power → m < power
    → ordering_then r s ≡ nat_cmp (x * power + n) (y * power + m)
first_digit x y power n m r s first rest below below' = by r (ranked x y r first)
  where
    by : (r : Ordering) → MatchOrdering r (x < y) (x ≡ y) (y < x) → ordering_then r s ≡ nat_cmp (x * power + n) (y * power + m)
    by Less h = nat_cmp_is _ _ Less (smaller x y power n m h below)
    by Equal h = same_digit x y power n m s h (ranked n m s rest)
    by Greater h = nat_cmp_is _ _ Greater (smaller y x power m n h below')

-- the first byte that differs decides
pub unsigned_order-bytes : (a b : List ℕ) → AreBytes a → AreBytes b → length a ≡ length b → slice_cmp nat_cmp a b ≡ unsigned_order a b
unsigned_order-bytes [] [] fa fb same = refl
unsigned_order-bytes [] (y ∷ ys) fa fb same = absurd (omega arith)
unsigned_order-bytes (x ∷ xs) [] fa fb same = absurd (omega arith)
unsigned_order-bytes (x ∷ xs) (y ∷ ys) fa fb same =
    let long : length xs ≡ length ys = omega arith in
    let fx : AreBytes xs = λ i. fa (suc i) in
    let fy : AreBytes ys = λ i. fb (suc i) in
    let rest = unsigned_order-bytes xs ys fx fy long in
    let below : unsigned_number ys < 256 ^ length xs = subst (λ k. unsigned_number ys < 256 ^ k) (sym long) (unsigned_number-lt ys fy) in
    first_digit x y (256 ^ length xs) (unsigned_number xs) (unsigned_number ys) (nat_cmp x y) (slice_cmp nat_cmp xs ys) refl rest
    (unsigned_number-lt xs fx) below
    ∙ ap (λ k. nat_cmp (x * 256 ^ length xs + unsigned_number xs) (y * 256 ^ k + unsigned_number ys)) long

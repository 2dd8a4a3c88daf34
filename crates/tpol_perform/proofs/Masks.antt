-- Selections of PCRs whose bytes are equal select the same PCRs.
use Rattle.std.proofs.Common.{◌≡◌, ◌∙◌, ap, refl, sym, subst, ℕ, zero, suc, ◌+◌, ◌/◌, ◌%◌, ◌^◌, ◌<◌, ◌≤◌, ◌==◌, if◌then◌else◌, List, [], ◌∷◌, length, take, arith}
use Rattle.std.specs.Prelude.{filter, get_or}
use Rattle.std.specs.Int.{bit_at, to_le_bytes, w32}
use Rattle.std.specs.List.{enumerate_from}
use Rattle.tpol_base.specs.Pcr.{is_in_mask}
use Rattle.std.proofs.Math.Pow.{mod-mod-pow}
use Rattle.std.proofs.lemmas.Nat.{mod-pow-add}
use Rattle.std.proofs.lemmas.Nat.Bits.{bit_at-suc, bit_at_lowest}

-- ---- bits

lowest_same : (k m n : ℕ) → m % 2 ^ (k + 1) ≡ n % 2 ^ (k + 1) → m % 2 ^ 1 ≡ n % 2 ^ 1
lowest_same k m n same = sym (mod-mod-pow m k 1) ∙ (ap (λ x. x % 2 ^ 1) same ∙ mod-mod-pow n k 1)

rest_same : (k m n : ℕ) → m % 2 ^ (k + 1) ≡ n % 2 ^ (k + 1) → m / 2 % 2 ^ k ≡ n / 2 % 2 ^ k
rest_same k m n same =
    let lowest = lowest_same k m n same in
    let a = mod-pow-add m k 1 in
    let b = mod-pow-add n k 1 in
    omega (arith, same, lowest, a, b)

one_more : (k m n : ℕ) → m % 2 ^ suc k ≡ n % 2 ^ suc k → m % 2 ^ (k + 1) ≡ n % 2 ^ (k + 1)
one_more k m n same = let more : suc k ≡ k + 1 = omega arith in subst (λ x. m % 2 ^ x ≡ n % 2 ^ x) more same

-- numbers with the same lowest bits have the same bit at each place among them
bits_same : (k i m n : ℕ) → i < k → m % 2 ^ k ≡ n % 2 ^ k → bit_at m i ≡ bit_at n i
bits_same zero i m n less same = absurd (omega (arith, less))
bits_same (suc k) zero m n less same = bit_at_lowest m ∙ (lowest_same k m n (one_more k m n same) ∙ sym (bit_at_lowest n))
bits_same (suc k) (suc i) m n less same =
    bit_at-suc m i ∙ (bits_same k i (m / 2) (n / 2) (omega (arith, less)) (rest_same k m n (one_more k m n same)) ∙ sym (bit_at-suc n i))

-- ---- the bytes of a selection

bytes_same : (a b c d e f : ℕ) → a ∷ b ∷ c ∷ [] ≡ d ∷ e ∷ f ∷ [] → (a ≡ d) × ((b ≡ e) × (c ≡ f))
bytes_same a b c d e f h = (ap (λ l. get_or l 0 0) h, (ap (λ l. get_or l 1 0) h, ap (λ l. get_or l 2 0) h))

pub mask_same : (m n : ℕ) → take 3 (to_le_bytes w32 m) ≡ take 3 (to_le_bytes w32 n) → m % 2 ^ 24 ≡ n % 2 ^ 24
mask_same m n h =
    let bytes = bytes_same (m % 256) (m / 256 % 256) (m / 65536 % 256) (n % 256) (n / 256 % 256) (n / 65536 % 256) h in
    omega (arith, bytes.0, bytes.1.0, bytes.1.1)

-- ---- what is selected

pub select_same : (A : Type 0) (m n from : ℕ) (values : List A) → from + length values ≤ 24 → m % 2 ^ 24 ≡ n % 2 ^ 24
    → filter (λ p. is_in_mask m p.0) (enumerate_from from values) ≡ filter (λ p. is_in_mask n p.0) (enumerate_from from values)
select_same A m n from [] few same = refl
select_same A m n from (value ∷ rest) few same =
    let bit : bit_at m from ≡ bit_at n from = bits_same 24 from m n (omega (arith, few)) same in
    ap (λ (b : ℕ). if b == 1 then (from, value) ∷ filter (λ p. is_in_mask m p.0) (enumerate_from (from + 1) rest) else filter (λ p. is_in_mask m p.0) (enumerate_from (from + 1) rest)) bit
    ∙ ap (λ (l : List (ℕ × A)). if bit_at n from == 1 then (from, value) ∷ l else l) (select_same A m n (from + 1) rest (omega (arith, few)) same)

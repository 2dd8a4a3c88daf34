-- The bits of slots.
use Rattle.std.proofs.Common.{◌≡◌, ℕ, zero, suc, ◌+◌, ◌-◌, ◌*◌, ◌/◌, ◌%◌, List, [], ◌∷◌, drop, Option, None, Some, refl, ap, ◌∙◌, arith, nat_le, true}
use Rattle.std.specs.Int.{bit_at}
use Rattle.std.proofs.lemmas.Nat.Bits.{bit_at_lowest, bit_at-suc, bit_at-zero}
use Rattle.std.proofs.lemmas.Bool.Decides.{nat_tests}
use Rattle.tpm_session.specs.Slots.{first_handle, in_slot, content_at, bit_of, bits_of}
use Rattle.tpm_session.specs.Numbered.{plain}

pub bits-drop : {A : Type 0} (slots : List (Option A)) (slot : ℕ) → bits_of (drop slot slots) ≡ bit_of (in_slot slots slot) + 2 * bits_of (drop (suc slot) slots)
bits-drop [] zero = refl
bits-drop [] (suc slot) = refl
bits-drop (content ∷ rest) zero = refl
bits-drop (content ∷ rest) (suc slot) = bits-drop rest slot

pub bit_at-bits : {A : Type 0} (slots : List (Option A)) (slot : ℕ) → bit_at (bits_of slots) slot ≡ bit_of (in_slot slots slot)
bit_at-bits [] slot = bit_at-zero slot
bit_at-bits (None ∷ rest) zero =
    let low : (0 + 2 * bits_of rest) % 2 ≡ 0 = omega arith in
    bit_at_lowest (0 + 2 * bits_of rest) ∙ low
bit_at-bits (Some content ∷ rest) zero =
    let low : (1 + 2 * bits_of rest) % 2 ≡ 1 = omega arith in
    bit_at_lowest (1 + 2 * bits_of rest) ∙ low
bit_at-bits (None ∷ rest) (suc slot) =
    let high : (0 + 2 * bits_of rest) / 2 ≡ bits_of rest = omega arith in
    bit_at-suc (0 + 2 * bits_of rest) slot ∙ (ap (λ n. bit_at n slot) high ∙ bit_at-bits rest slot)
bit_at-bits (Some content ∷ rest) (suc slot) =
    let high : (1 + 2 * bits_of rest) / 2 ≡ bits_of rest = omega arith in
    bit_at-suc (1 + 2 * bits_of rest) slot ∙ (ap (λ n. bit_at n slot) high ∙ bit_at-bits rest slot)

-- a slot that has something has the same bit, whatever that says
pub bits-plain : {A B : Type 0} (view : B → A) (table : List (Option B)) → bits_of (plain view table) ≡ bits_of table
bits-plain view [] = refl
bits-plain view (None ∷ rest) = ap (λ n. 0 + 2 * n) (bits-plain view rest)
bits-plain view (Some content ∷ rest) = ap (λ n. 1 + 2 * n) (bits-plain view rest)

pub content-handle : {A : Type 0} (slots : List (Option A)) (slot : ℕ) → content_at slots (first_handle + slot) ≡ in_slot slots slot
content-handle slots slot =
    let within : nat_le first_handle (first_handle + slot) ≡ true = grind (arith, nat_tests) in
    let same : first_handle + slot - first_handle ≡ slot = omega arith in
    rw (within, same) refl

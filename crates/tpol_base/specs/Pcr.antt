-- Platform configuration registers (PCRs).
use Rattle.std.specs.Prelude.{ℕ, Bool, ◌/◌, ◌%◌, ◌^◌, ◌==◌, List, ◌∷◌, take, filter, fold, bit_or}
use Rattle.std.specs.Int.{to_le_bytes, w32}
use Rattle.std.specs.List.{range_with_len}

-- whether a set has this PCR: bit n for PCR n
abbrev pub is_in_mask : ℕ → ℕ → Bool
is_in_mask mask pcr = mask / 2 ^ pcr % 2 == 1

-- the numbers of a set's PCRs, in rising order
unfoldable pub pcrs_of_mask : ℕ → List ℕ
pcrs_of_mask mask = filter (is_in_mask mask) (range_with_len 0 32)

-- the set of these PCRs, as a mask
abbrev pub mask_of_pcrs : List ℕ → ℕ
mask_of_pcrs pcrs = fold (λ mask pcr. bit_or mask (2 ^ pcr)) 0 pcrs

-- a selection of SHA-256 PCRs (TPM 2.0 Part 2, TPML_PCR_SELECTION): PCR n is bit n mod 8 of byte n / 8
abbrev pub pcr_selection : ℕ → List ℕ
pcr_selection mask = 0 ∷ 0 ∷ 0 ∷ 1 ∷ 0 ∷ 0x0b ∷ 3 ∷ take 3 (to_le_bytes w32 mask)

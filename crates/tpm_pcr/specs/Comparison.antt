-- The comparisons of operands (TPM 2.0 Part 2, TPM_EO; Part 3, TPM2_PolicyNV).
use Rattle.std.specs.Prelude.{ℕ, ◌+◌, ◌*◌, ◌^◌, ◌==◌, ℤ, pos, ◌-ℤ◌, Bool, List, [], ◌∷◌, length, nat_le, slice_index, bit_and, if◌then◌else◌}
use Rattle.std.specs.declared.cmp.Ordering.{Ordering}
use Rattle.std.specs.Ordering.{int_cmp, nat_cmp, is_eq, is_ne, is_lt, is_gt, is_le, is_ge}
use Rattle.std.specs.List.{list_all, zip}
use Rattle.tpol_base.specs.declared.compare.Compare.{Compare}
use Rattle.tpol_base.specs.declared.compare.Compare.TheVariants.{Eq, Neq, SignedGt, UnsignedGt, SignedLt, UnsignedLt, SignedGe, UnsignedGe, SignedLe, UnsignedLe, BitSet, BitClear}

-- the number of big-endian bytes
abbrev pub unsigned_number : List ℕ → ℕ
unsigned_number [] = 0
unsigned_number (byte ∷ bytes) = byte * 256 ^ length bytes + unsigned_number bytes

-- whether the sign bit is set, which no empty operand has
abbrev pub is_negative : List ℕ → Bool
is_negative bytes = nat_le 128 (slice_index bytes 0)

-- the number in two's complement
abbrev pub signed_number : List ℕ → ℤ
signed_number bytes =
    if is_negative bytes then pos (unsigned_number bytes) -ℤ pos (256 ^ length bytes) else pos (unsigned_number bytes)

-- how the first operand stands to the second one
abbrev pub unsigned_order : List ℕ → List ℕ → Ordering
unsigned_order a b = nat_cmp (unsigned_number a) (unsigned_number b)

abbrev pub signed_order : List ℕ → List ℕ → Ordering
signed_order a b = int_cmp (signed_number a) (signed_number b)

-- whether all bits of the second operand are set in the first one
abbrev pub has_bits : List ℕ → List ℕ → Bool
has_bits a b = list_all (λ p. bit_and p.0 p.1 == p.1) (zip a b)

-- whether no bit of the second operand is set in the first one
abbrev pub has_none_of_bits : List ℕ → List ℕ → Bool
has_none_of_bits a b = list_all (λ p. bit_and p.0 p.1 == 0) (zip a b)

-- whether the comparison of two operands of one length holds
abbrev pub holds : Compare → List ℕ → List ℕ → Bool
holds Eq a b = is_eq (unsigned_order a b)
holds Neq a b = is_ne (unsigned_order a b)
holds SignedGt a b = is_gt (signed_order a b)
holds UnsignedGt a b = is_gt (unsigned_order a b)
holds SignedLt a b = is_lt (signed_order a b)
holds UnsignedLt a b = is_lt (unsigned_order a b)
holds SignedGe a b = is_ge (signed_order a b)
holds UnsignedGe a b = is_ge (unsigned_order a b)
holds SignedLe a b = is_le (signed_order a b)
holds UnsignedLe a b = is_le (unsigned_order a b)
holds BitSet a b = has_bits a b
holds BitClear a b = has_none_of_bits a b

-- The numbers and the names of comparisons (TPM 2.0 Part 2, TPM_EO).
use Rattle.std.specs.Prelude.{ℕ, ◌==◌, List, [], ◌∷◌, Option, find, map, codes}
use Rattle.tpol_base.specs.declared.compare.Compare.{Compare}
use Rattle.tpol_base.specs.declared.compare.Compare.TheVariants.{Eq, Neq, SignedGt, UnsignedGt, SignedLt, UnsignedLt, SignedGe, UnsignedGe, SignedLe, UnsignedLe, BitSet, BitClear}

abbrev pub number_of_compare : Compare → ℕ
number_of_compare Eq = 0
number_of_compare Neq = 1
number_of_compare SignedGt = 2
number_of_compare UnsignedGt = 3
number_of_compare SignedLt = 4
number_of_compare UnsignedLt = 5
number_of_compare SignedGe = 6
number_of_compare UnsignedGe = 7
number_of_compare SignedLe = 8
number_of_compare UnsignedLe = 9
number_of_compare BitSet = 10
number_of_compare BitClear = 11

abbrev pub comparisons : List Compare
comparisons = Eq ∷ Neq ∷ SignedGt ∷ UnsignedGt ∷ SignedLt ∷ UnsignedLt ∷ SignedGe ∷ UnsignedGe ∷ SignedLe ∷ UnsignedLe ∷ BitSet ∷ BitClear ∷ []

-- the comparison of this number
unfoldable pub compare_of_number : ℕ → Option Compare
compare_of_number number = find (λ compare. number_of_compare compare == number) comparisons

-- the name of a comparison
abbrev pub name_of_compare : Compare → List ℕ
name_of_compare Eq = codes "EQ"
name_of_compare Neq = codes "NEQ"
name_of_compare SignedGt = codes "SIGNED_GT"
name_of_compare UnsignedGt = codes "UNSIGNED_GT"
name_of_compare SignedLt = codes "SIGNED_LT"
name_of_compare UnsignedLt = codes "UNSIGNED_LT"
name_of_compare SignedGe = codes "SIGNED_GE"
name_of_compare UnsignedGe = codes "UNSIGNED_GE"
name_of_compare SignedLe = codes "SIGNED_LE"
name_of_compare UnsignedLe = codes "UNSIGNED_LE"
name_of_compare BitSet = codes "BITSET"
name_of_compare BitClear = codes "BITCLEAR"

-- every comparison with its name
abbrev pub names_of_comparisons : List (List ℕ × Compare)
names_of_comparisons = map (λ compare. (name_of_compare compare, compare)) comparisons

-- The numbers of attributes and of localities that FAPI writes as objects of zeros and ones.
use Rattle.std.specs.Prelude.{ℕ, ◌*◌, ◌^◌, ◌==◌, nat_le, bit_or, List, [], ◌∷◌, codes, Option, Some, None, option_and_then, if◌then◌else◌}
use Rattle.std.specs.Str.{bytes_eq}
use Rattle.serde_json.specs.Data.{Data, Members, no_members, member}
use Rattle.serde_json.specs.Find.{as_number, as_str, as_u64}
use Rattle.tpol_adopt.specs.Words.{meaning_of_word}
use Rattle.tpol_adopt.specs.declared.flags.Flags.{Flags}
use Rattle.tpol_adopt.specs.declared.flags.Flags.TheVariants.{OfIndex, OfObject, OfLocality}

-- the attributes of an index (TPM 2.0 Part 2, TPMA_NV)
abbrev pub index_flags : List (List ℕ × ℕ)
index_flags =
    (codes "PPWRITE", 2 ^ 0) ∷ (codes "OWNERWRITE", 2 ^ 1) ∷ (codes "AUTHWRITE", 2 ^ 2)
    ∷ (codes "POLICYWRITE", 2 ^ 3) ∷ (codes "POLICY_DELETE", 2 ^ 10) ∷ (codes "WRITELOCKED", 2 ^ 11)
    ∷ (codes "WRITEALL", 2 ^ 12) ∷ (codes "WRITEDEFINE", 2 ^ 13) ∷ (codes "WRITE_STCLEAR", 2 ^ 14)
    ∷ (codes "GLOBALLOCK", 2 ^ 15) ∷ (codes "PPREAD", 2 ^ 16) ∷ (codes "OWNERREAD", 2 ^ 17)
    ∷ (codes "AUTHREAD", 2 ^ 18) ∷ (codes "POLICYREAD", 2 ^ 19) ∷ (codes "NO_DA", 2 ^ 25)
    ∷ (codes "ORDERLY", 2 ^ 26) ∷ (codes "CLEAR_STCLEAR", 2 ^ 27) ∷ (codes "READLOCKED", 2 ^ 28)
    ∷ (codes "WRITTEN", 2 ^ 29) ∷ (codes "PLATFORMCREATE", 2 ^ 30) ∷ (codes "READ_STCLEAR", 2 ^ 31) ∷ []

-- the types of an index (TPM 2.0 Part 2, TPM_NT), in bits 4 to 7
abbrev pub index_types : List (List ℕ × ℕ)
index_types =
    (codes "ORDINARY", 0 * 2 ^ 4) ∷ (codes "COUNTER", 1 * 2 ^ 4) ∷ (codes "BITS", 2 * 2 ^ 4)
    ∷ (codes "EXTEND", 4 * 2 ^ 4) ∷ (codes "PIN_FAIL", 8 * 2 ^ 4) ∷ (codes "PIN_PASS", 9 * 2 ^ 4) ∷ []

-- the attributes of an object (TPM 2.0 Part 2, TPMA_OBJECT)
abbrev pub object_flags : List (List ℕ × ℕ)
object_flags =
    (codes "fixedTPM", 2 ^ 1) ∷ (codes "stClear", 2 ^ 2) ∷ (codes "fixedParent", 2 ^ 4)
    ∷ (codes "sensitiveDataOrigin", 2 ^ 5) ∷ (codes "userWithAuth", 2 ^ 6) ∷ (codes "adminWithPolicy", 2 ^ 7)
    ∷ (codes "noDA", 2 ^ 10) ∷ (codes "encryptedDuplication", 2 ^ 11) ∷ (codes "restricted", 2 ^ 16)
    ∷ (codes "decrypt", 2 ^ 17) ∷ (codes "sign", 2 ^ 18) ∷ []

-- the localities 0 to 4 (TPM 2.0 Part 2, TPMA_LOCALITY)
abbrev pub locality_flags : List (List ℕ × ℕ)
locality_flags =
    (codes "ZERO", 2 ^ 0) ∷ (codes "ONE", 2 ^ 1) ∷ (codes "TWO", 2 ^ 2) ∷ (codes "THREE", 2 ^ 3)
    ∷ (codes "FOUR", 2 ^ 4) ∷ []

-- a whole number that is not negative
abbrev pub count_in : Data → Option ℕ
count_in d = option_and_then as_u64 (as_number d)

-- 0 sets no bit, and 1 the flag's
abbrev pub bits_of_flag : ℕ → Option ℕ → Option ℕ
bits_of_flag flag None = None
bits_of_flag flag (Some n) = if n == 0 then Some 0 else if n == 1 then Some flag else None

-- one of these flags
abbrev pub bits_of_row : List (List ℕ × ℕ) → List ℕ → Data → Option ℕ
bits_of_row flags name d = option_and_then (λ flag. bits_of_flag flag (count_in d)) (meaning_of_word flags name)

-- what `Extended` says, 0 to 7, in bits 5 to 7 (TPM 2.0 Part 2, TPMA_LOCALITY)
abbrev pub bits_of_extended : Option ℕ → Option ℕ
bits_of_extended None = None
bits_of_extended (Some n) = if nat_le n 7 then Some (n * 2 ^ 5) else None

-- the bits that a member sets; none where it is unknown, or says anything else
unfoldable pub bits_of_member : Flags → List ℕ → Data → Option ℕ
bits_of_member OfIndex name d =
    if bytes_eq name (codes "TPM2_NT") then option_and_then (meaning_of_word index_types) (as_str d)
    else bits_of_row index_flags name d
bits_of_member OfObject name d = bits_of_row object_flags name d
bits_of_member OfLocality name d =
    if bytes_eq name (codes "Extended") then bits_of_extended (count_in d) else bits_of_row locality_flags name d

-- these bits with those that the members set; none where a member is unknown, or its value is none that it may have
unfoldable pub bits_from : Flags → ℕ → Members → Option ℕ
bits_from flags bits no_members = Some bits
bits_from flags bits (member name d ms) =
    option_and_then (λ more. bits_from flags (bit_or bits more) ms) (bits_of_member flags name d)

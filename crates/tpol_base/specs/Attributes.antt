-- Attributes of objects and of NV indices (TPM 2.0 Part 2, TPMA_OBJECT and TPMA_NV), and the types of indices
-- (TPM_NT).
use Rattle.std.specs.Prelude.{ℕ, Bool, not, ◌/◌, ◌%◌, ◌^◌, ◌==◌, ◌||◌, ◌&&◌, bit_and}

-- whether the attributes have this one
abbrev pub has_attribute : ℕ → ℕ → Bool
has_attribute attributes attribute = not (bit_and attributes attribute == 0)

-- ---- objects (TPMA_OBJECT)

-- bit 4: the object cannot be duplicated to another parent
abbrev pub object_fixed_parent : ℕ
object_fixed_parent = 2 ^ 4

-- bit 6: the authorization value may be used in the role USER
abbrev pub object_user_with_auth : ℕ
object_user_with_auth = 2 ^ 6

-- bit 10: the object is outside the protection against dictionary attacks
abbrev pub object_no_da : ℕ
object_no_da = 2 ^ 10

-- bit 16: the key only serves structures of the TPM's own
abbrev pub object_restricted : ℕ
object_restricted = 2 ^ 16

-- bit 17: the key may decrypt
abbrev pub object_decrypt : ℕ
object_decrypt = 2 ^ 17

-- bit 18: the key may sign
abbrev pub object_sign : ℕ
object_sign = 2 ^ 18

-- ---- indices (TPMA_NV)

-- bit 1: the owner may write
abbrev pub nv_ownerwrite : ℕ
nv_ownerwrite = 2 ^ 1

-- bit 2: the index's value may be used for writing
abbrev pub nv_authwrite : ℕ
nv_authwrite = 2 ^ 2

-- bit 3: the index's policy may be used for writing
abbrev pub nv_policywrite : ℕ
nv_policywrite = 2 ^ 3

-- bit 12: only the whole content may be written
abbrev pub nv_writeall : ℕ
nv_writeall = 2 ^ 12

-- bit 17: the owner may read
abbrev pub nv_ownerread : ℕ
nv_ownerread = 2 ^ 17

-- bit 18: the index's value may be used for reading
abbrev pub nv_authread : ℕ
nv_authread = 2 ^ 18

-- bit 19: the index's policy may be used for reading
abbrev pub nv_policyread : ℕ
nv_policyread = 2 ^ 19

-- bit 25: the index is outside the protection against dictionary attacks
abbrev pub nv_no_da : ℕ
nv_no_da = 2 ^ 25

-- bit 29: the index was written
abbrev pub nv_written : ℕ
nv_written = 2 ^ 29

-- ---- types of indices (TPM_NT)

-- the content is bytes
abbrev pub nt_ordinary : ℕ
nt_ordinary = 0

-- the content is a count of eight bytes that only rises
abbrev pub nt_counter : ℕ
nt_counter = 1

-- the content is eight bytes of bits that are only set
abbrev pub nt_bits : ℕ
nt_bits = 2

-- the content is a digest that is extended
abbrev pub nt_extend : ℕ
nt_extend = 4

-- the type of an index with these attributes: bits 4 to 7
abbrev pub index_type : ℕ → ℕ
index_type attributes = attributes / 2 ^ 4 % 2 ^ 4

-- one of the four types
abbrev pub is_index_type : ℕ → Bool
is_index_type kind = kind == nt_ordinary || kind == nt_counter || kind == nt_bits || kind == nt_extend

-- whether the content of an index of this type may have this size: 8 bytes for counters and bits, 32 for
-- those that are extended
abbrev pub is_size_of_type : ℕ → ℕ → Bool
is_size_of_type kind size =
    kind == nt_ordinary || (kind == nt_counter && size == 8) || (kind == nt_bits && size == 8) || (kind == nt_extend && size == 32)

-- The bytes of Names (TPM 2.0 Part 1, "Names").
use Rattle.std.specs.Prelude.{ℕ, Bool, true, false, nat_eq, ◌==◌, ◌&&◌, List, [], ◌∷◌, length, drop, slice_index, Option, Some, None, if◌then◌else◌}
use Rattle.std.specs.Int.{from_be_bytes, to_be_bytes, w32}
use Rattle.tpol_base.specs.declared.name.Name.{Name}
use Rattle.tpol_base.specs.Digest.{digest_of_bytes, is_same_digest}
use Rattle.tpol_base.specs.declared.name.Name.TheVariants.{Empty, Handle, Hash}

-- nothing, the handle's four bytes, or TPM_ALG_SHA256 (0x000b) and the digest
abbrev pub name_bytes : Name → List ℕ
name_bytes Empty = []
name_bytes (Handle handle) = to_be_bytes w32 handle
name_bytes (Hash digest) = 0 ∷ 11 ∷ digest.bytes

-- the Name of these bytes
abbrev pub name_of_bytes : List ℕ → Option Name
name_of_bytes bytes =
    if length bytes == 0 then Some Empty else (
    if length bytes == 4 then Some (Handle (from_be_bytes w32 bytes)) else (
    if length bytes == 34 && (slice_index bytes 0 == 0 && slice_index bytes 1 == 11) then Some (Hash (digest_of_bytes (drop 2 bytes))) else None))

-- whether two Names are the same
abbrev pub is_same_name : Name → Name → Bool
is_same_name Empty Empty = true
is_same_name (Handle a) (Handle b) = nat_eq a b
is_same_name (Hash a) (Hash b) = is_same_digest a b
is_same_name _ _ = false

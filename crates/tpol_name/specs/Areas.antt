-- Public areas and the Names made of them (TPM 2.0 Part 1, "Names"; Part 2, TPMT_PUBLIC and
-- TPMS_NV_PUBLIC). Numbers are big-endian, and the name algorithm is TPM_ALG_SHA256, 0x000b.
use Rattle.std.specs.Prelude.{ℕ, Bool, true, false, ◌&&◌, List, ◌++◌, bit_or}
use Rattle.std.specs.Int.{to_be_bytes, w16, w32}
use Rattle.tpol_base.specs.Attributes.{has_attribute, nv_written, object_sign}
use Rattle.tpol_base.specs.Constants.{alg_hmac, alg_keyedhash, alg_null, alg_sha256}
use Rattle.tpol_base.specs.Sized.{sized}
use Rattle.tpol_base.specs.declared.name.Name.{Name}
use Rattle.tpol_base.specs.declared.name.Name.TheVariants.{Hash}
use Rattle.tpol_hash.specs.Sha256.{sha256_digest}
use Rattle.tpol_name.specs.declared.areas.NvPublic.{NvPublic}
use Rattle.tpol_name.specs.declared.areas.ObjectPublic.{ObjectPublic}
use Rattle.tpol_name.specs.declared.areas.Scheme.{Scheme}
use Rattle.tpol_name.specs.declared.areas.Scheme.TheVariants.{Sealed, HmacKey}

-- the scheme NULL of a sealed object, the scheme HMAC over SHA-256 of a key
abbrev pub scheme_bytes : Scheme → List ℕ
scheme_bytes Sealed = to_be_bytes w16 alg_null
scheme_bytes HmacKey = to_be_bytes w16 alg_hmac ++ to_be_bytes w16 alg_sha256

-- the public area of an object: the type KEYEDHASH, the name algorithm, the attributes, authPolicy, the
-- scheme and the unique field
abbrev pub object_area : ObjectPublic → List ℕ
object_area public =
    to_be_bytes w16 alg_keyedhash ++ to_be_bytes w16 alg_sha256 ++ to_be_bytes w32 public.attributes
    ++ sized public.auth_policy ++ scheme_bytes public.scheme ++ sized public.unique

-- the Name of an object
abbrev pub object_name : ObjectPublic → Name
object_name public = Hash (sha256_digest (object_area public))

-- the public area of an index: the handle, the name algorithm, the attributes, authPolicy and the size
abbrev pub index_area : NvPublic → List ℕ
index_area public =
    to_be_bytes w32 public.index ++ to_be_bytes w16 alg_sha256 ++ to_be_bytes w32 public.attributes
    ++ sized public.auth_policy ++ to_be_bytes w16 public.size

-- the Name of an index
abbrev pub index_name : NvPublic → Name
index_name public = Hash (sha256_digest (index_area public))

-- whether the attributes of an index have WRITTEN
abbrev pub is_written : ℕ → Bool
is_written attributes = has_attribute attributes nv_written

-- an index with WRITTEN set
abbrev pub with_written : NvPublic → NvPublic
with_written public = record public { attributes = bit_or public.attributes nv_written }

-- whether an object is an HMAC key, by its scheme, and then whether it is one that may sign, by its attribute too
abbrev pub is_hmac : Scheme → Bool
is_hmac Sealed = false
is_hmac HmacKey = true

abbrev pub may_sign : Scheme → ℕ → Bool
may_sign scheme attributes = is_hmac scheme && has_attribute attributes object_sign

abbrev pub is_signing_key : ObjectPublic → Bool
is_signing_key public = may_sign public.scheme public.attributes

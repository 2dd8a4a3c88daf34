-- The kinds of fields that commands and replies have.
use Rattle.std.specs.Prelude.{◌==◌, ◌||◌, ℕ, nat_le, Bool, true}
use Rattle.std.specs.Int.{w8, w16, w32, w64}
use Rattle.tpol_base.specs.Constants.{alg_hmac, alg_null, alg_sha256}
use Rattle.tpol_base.specs.Handle.{rh_null}
use Rattle.tpol_base.specs.ResponseCode.{rc_hash, rc_size, rc_value}
use Rattle.tpol_fields.specs.declared.handle_type.HandleType.{HandleType}
use Rattle.tpol_fields.specs.declared.handle_type.HandleType.TheVariants.{PolicySession}
use Rattle.tpol_fields.specs.HandleTypes.{is_of_type}
use Rattle.tpol_fields.specs.Kinds.{Kind, Nothing, Number, Digest, Mask, Behind, Together}

abbrev pub is_any_number : ℕ → Bool
is_any_number n = true

-- the greatest size of an NV_Read
abbrev pub is_read_size : ℕ → Bool
is_read_size n = nat_le n 1024

-- SHA-256, or the null algorithm, which stands for the key's
abbrev pub is_hash : ℕ → Bool
is_hash n = n == alg_sha256 || n == alg_null

abbrev pub handle : HandleType → Kind
handle named = Number w32 (is_of_type named) rc_value

abbrev pub byte : Kind
byte = Number w8 is_any_number 0

abbrev pub short : Kind
short = Number w16 is_any_number 0

abbrev pub long : Kind
long = Number w32 is_any_number 0

-- a size of 0 to 1,024
abbrev pub read_size : Kind
read_size = Number w16 is_read_size rc_value

-- SHA-256 or the null algorithm
abbrev pub hash : Kind
hash = Number w16 is_hash rc_hash

-- a number of two bytes that is fixed
abbrev pub fixed : ℕ → ℕ → Kind
fixed n code = Behind w16 n code Nothing

-- a byte that is fixed
abbrev pub fixed_byte : ℕ → ℕ → Kind
fixed_byte n code = Behind w8 n code Nothing

-- a 2B of 32 bytes
abbrev pub sized_digest : Kind
sized_digest = Behind w16 32 rc_size Digest

-- a 2B of no bytes
abbrev pub empty : Kind
empty = Behind w16 0 rc_size Nothing

-- a deadline: a 2B of 8 bytes
abbrev pub timeout : Kind
timeout = Behind w16 8 rc_size (Number w64 is_any_number 0)

-- one digest of SHA-256 behind its count and its algorithm
abbrev pub one_digest : Kind
one_digest = Behind w32 1 rc_size (Behind w16 alg_sha256 rc_hash Digest)

-- one selection of SHA-256 PCRs, with three bytes of mask
abbrev pub selection : Kind
selection = Behind w32 1 rc_size (Behind w16 alg_sha256 rc_hash (Behind w8 3 rc_value Mask))

-- an HMAC with SHA-256
abbrev pub signature : Kind
signature = Behind w16 alg_hmac rc_value (Behind w16 alg_sha256 rc_hash Digest)

-- the context of a session: its sequence, its handle, the null hierarchy and a 2B of 32 bytes
abbrev pub context : Kind
context = Together (Number w64 is_any_number 0) (Together (handle PolicySession) (Behind w32 rh_null rc_value sized_digest))

-- The moment after which an authorization by PolicySecret or PolicySigned no longer holds (TPM 2.0 Part 3,
-- the parameters nonceTPM and expiration), and the nonce that ties it to a session.
use Rattle.std.specs.Prelude.{ℕ, ◌+◌, ◌*◌, ◌==◌, ℤ, unsigned_abs, Bool, true, List, [], ◌∷◌, Option, Some, None, if◌then◌else◌}
use Rattle.std.specs.Str.{bytes_eq}
use Rattle.tpol_base.specs.declared.digest.Digest32.{Digest32}

-- an expiration in milliseconds; it is given in seconds, and a negative one counts by its size
abbrev pub milliseconds : ℤ → ℕ
milliseconds expiration = 1000 * unsigned_abs expiration

-- what an expiration counts from: with a nonce the session's start, without one time 0
abbrev pub counted_from : ℕ → List ℕ → ℕ
counted_from start [] = 0
counted_from start (byte ∷ nonce) = start

-- an expiration of 0 gives no deadline
abbrev pub deadline_of : ℕ → List ℕ → ℤ → Option ℕ
deadline_of start nonce expiration =
    if unsigned_abs expiration == 0 then None else Some (counted_from start nonce + milliseconds expiration)

-- whether a nonce is the session's, or is left out
abbrev pub is_nonce_or_none : Digest32 → List ℕ → Bool
is_nonce_or_none session [] = true
is_nonce_or_none session (byte ∷ nonce) = bytes_eq (byte ∷ nonce) session.bytes

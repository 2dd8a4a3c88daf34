-- The HMACs of sessions that are neither bound nor salted, so that the authorization value alone is the key
-- (TPM 2.0 Part 1, "HMAC Computation").
use Rattle.std.specs.Prelude.{ℕ, Bool, ◌==◌, ◌&&◌, ◌||◌, List, [], ◌∷◌, ◌++◌, length}
use Rattle.std.specs.Str.{bytes_eq}
use Rattle.tpol_base.specs.declared.digest.Digest32.{Digest32}
use Rattle.tpol_hash.specs.Hmac.{hmac_sha256}

-- HMAC(authValue, pHash || nonceNewer || nonceOlder || sessionAttributes)
abbrev pub session_mac : List ℕ → Digest32 → List ℕ → List ℕ → ℕ → Digest32
session_mac auth parameter_hash nonce_newer nonce_older attributes =
    hmac_sha256 auth (parameter_hash.bytes ++ nonce_newer ++ nonce_older ++ attributes ∷ [])

-- a command's: pHash is its cpHash, and the caller's nonce is the newer one
abbrev pub command_mac : List ℕ → Digest32 → List ℕ → Digest32 → ℕ → Digest32
command_mac auth cp_hash nonce_caller nonce_tpm attributes =
    session_mac auth cp_hash nonce_caller nonce_tpm.bytes attributes

-- a reply's: pHash is its rpHash, and the TPM's nonce is the newer one
abbrev pub reply_mac : List ℕ → Digest32 → Digest32 → List ℕ → ℕ → Digest32
reply_mac auth rp_hash nonce_tpm nonce_caller attributes =
    session_mac auth rp_hash nonce_tpm.bytes nonce_caller attributes

-- whether the field hmac of a command is right: with an empty value an empty field is right too
abbrev pub is_command_mac : List ℕ → Digest32 → List ℕ → Digest32 → ℕ → List ℕ → Bool
is_command_mac auth cp_hash nonce_caller nonce_tpm attributes given =
    (length auth == 0 && length given == 0)
    || bytes_eq given (command_mac auth cp_hash nonce_caller nonce_tpm attributes).bytes

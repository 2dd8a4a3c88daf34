-- Tickets: HMACs with the machine's proof as key.
use Rattle.std.specs.Prelude.{ℕ, Bool, List, ◌++◌}
use Rattle.std.specs.Int.{to_be_bytes, w16, w32, w64}
use Rattle.std.specs.Str.{bytes_eq}
use Rattle.tpol_base.specs.declared.digest.Digest32.{Digest32}
use Rattle.tpol_base.specs.declared.name.Name.{Name}
use Rattle.tpol_base.specs.Constants.{st_verified}
use Rattle.tpol_base.specs.Name.{name_bytes}
use Rattle.tpol_base.specs.Sized.{sized}
use Rattle.tpol_hash.specs.Hmac.{hmac_sha256}

-- the ticket of VerifySignature: HMAC(proof, TPM_ST_VERIFIED || digest || keyName) (TPM 2.0 Part 2,
-- TPMT_TK_VERIFIED)
abbrev pub verified_ticket : Digest32 → Digest32 → Name → Digest32
verified_ticket proof digest key =
    hmac_sha256 proof.bytes (to_be_bytes w16 st_verified ++ digest.bytes ++ name_bytes key)

-- whether these bytes are that ticket
abbrev pub is_verified_ticket : Digest32 → Digest32 → Name → List ℕ → Bool
is_verified_ticket proof digest key given = bytes_eq given (verified_ticket proof digest key).bytes

-- the ticket of PolicySecret and PolicySigned: HMAC(proof, tag || deadline || resetCount || cpHashA ||
-- policyRef || Name), the last three as sized buffers
abbrev pub auth_ticket : Digest32 → ℕ → ℕ → ℕ → List ℕ → List ℕ → Name → Digest32
auth_ticket proof tag deadline reset_count cp_hash policy_ref key =
    hmac_sha256 proof.bytes
    (to_be_bytes w16 tag ++ to_be_bytes w64 deadline ++ to_be_bytes w32 reset_count
    ++ sized cp_hash ++ sized policy_ref ++ sized (name_bytes key))

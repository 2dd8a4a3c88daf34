-- Signatures of HMAC keys (TPM 2.0 Part 3, TPM2_Sign, TPM2_PolicySigned).
use Rattle.std.specs.Prelude.{ℕ, ℤ, List, ◌++◌}
use Rattle.std.specs.Int.{cast_unsigned, to_be_bytes, w32}
use Rattle.tpol_base.specs.declared.digest.Digest32.{Digest32}
use Rattle.tpol_hash.specs.Hmac.{hmac_sha256}
use Rattle.tpol_hash.specs.Sha256.{sha256_digest}

-- the signature of a digest
abbrev pub signature_of : List ℕ → Digest32 → Digest32
signature_of key digest = hmac_sha256 key digest.bytes

-- what PolicySigned has signed: H(nonceTPM || expiration || cpHashA || policyRef)
abbrev pub signed_hash : List ℕ → ℤ → List ℕ → List ℕ → Digest32
signed_hash nonce_tpm expiration cp_hash policy_ref =
    sha256_digest (nonce_tpm ++ to_be_bytes w32 (cast_unsigned w32 expiration) ++ cp_hash ++ policy_ref)

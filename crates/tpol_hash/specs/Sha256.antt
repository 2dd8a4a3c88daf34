-- SHA-256 (FIPS 180-4) as a digest of 32 bytes.
use Rattle.std.specs.Prelude.{ℕ, List}
use Rattle.sha2.specs.Sha256.{sha256}
use Rattle.sha2.proofs.Facts256.{length-sha256}
use Rattle.tpol_base.specs.declared.digest.Digest32.{Digest32}

-- the SHA-256 digest of a message
abbrev pub sha256_digest : List ℕ → Digest32
sha256_digest message = record { bytes = sha256 message; whole = length-sha256 message }

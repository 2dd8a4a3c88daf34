-- Digests are what their bytes are.
use Rattle.std.proofs.Common.{◌≡◌, ℕ, zero, suc, ◌≤◌, List, [], ◌∷◌, length, take, take_all, refl, ap, ◌∙◌, arith}
use Rattle.std.proofs.Math.Nat.{ℕ_set}
use mathlib.Core.HLevel.{is_prop→PathP}
use Rattle.tpol_base.specs.declared.digest.Digest32.{Digest32}
use Rattle.tpol_base.specs.Digest.{front, digest_of_bytes}

-- two digests of the same bytes are one
pub same_digest : (a b : Digest32) → a.bytes ≡ b.bytes → a ≡ b
same_digest a b e = λ i. record { bytes = e i; whole = is_prop→PathP (λ j. length (e j) ≡ 32) (λ j. ℕ_set _ _) a.whole b.whole i }

-- the first bytes, where there are so many
pub front_of : (n : ℕ) (bytes : List ℕ) → n ≤ length bytes → front n bytes ≡ take n bytes
front_of zero bytes h = refl
front_of (suc n) [] h = absurd (omega arith)
front_of (suc n) (b ∷ bytes) h = ap (λ (x : List ℕ). b ∷ x) (front_of n bytes (omega arith))

-- the digest of 32 bytes has those bytes
pub digest_of_whole : (bytes : List ℕ) → length bytes ≡ 32 → (digest_of_bytes bytes).bytes ≡ bytes
unfolding digest_of_bytes
digest_of_whole bytes h = front_of 32 bytes (omega arith) ∙ take_all 32 bytes (omega arith)

-- the digest of a digest's bytes is that digest
pub digest_again : (digest : Digest32) → digest_of_bytes digest.bytes ≡ digest
digest_again digest = same_digest (digest_of_bytes digest.bytes) digest (digest_of_whole digest.bytes digest.whole)

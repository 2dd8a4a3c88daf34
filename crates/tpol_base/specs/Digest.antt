-- Digests out of bytes, and the zero digest.
use Rattle.std.specs.Prelude.{◌≡◌, ℕ, Bool, zero, suc, List, [], ◌∷◌, length, Option, None, Some, replicate, refl}
use Rattle.std.proofs.Common.{ap}
use Rattle.std.specs.Str.{bytes_eq}
use Rattle.tpol_base.specs.declared.digest.Digest32.{Digest32}

-- the first n bytes, with zero bytes where there are fewer
abbrev pub front : ℕ → List ℕ → List ℕ
front zero bytes = []
front (suc n) [] = 0 ∷ front n []
front (suc n) (byte ∷ bytes) = byte ∷ front n bytes

pub length-front : (n : ℕ) (bytes : List ℕ) → length (front n bytes) ≡ n
length-front zero bytes = refl
length-front (suc n) [] = ap suc (length-front n [])
length-front (suc n) (byte ∷ bytes) = ap suc (length-front n bytes)

-- the digest that the first 32 bytes are, with zero bytes where there are fewer; nothing is hashed
unfoldable pub digest_of_bytes : List ℕ → Digest32
digest_of_bytes bytes = record { bytes = front 32 bytes; whole = length-front 32 bytes }

-- whether two digests are the same
abbrev pub is_same_digest : Digest32 → Digest32 → Bool
is_same_digest a b = bytes_eq a.bytes b.bytes

-- the bytes of a digest that may be left out: 32, or none
abbrev pub optional_bytes : Option Digest32 → List ℕ
optional_bytes None = []
optional_bytes (Some digest) = digest.bytes

-- 32 zero bytes
abbrev pub zero_digest : Digest32
zero_digest = record { bytes = replicate 32 0; whole = refl }

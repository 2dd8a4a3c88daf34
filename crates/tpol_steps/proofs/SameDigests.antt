-- Digests that compare as the same are the same.
use Rattle.std.proofs.Common.{◌≡◌, Bool, true, false, ◌&&◌, List, [], ◌∷◌, ap, refl}
use Rattle.std.proofs.lemmas.Bool.{and_parts}
use Rattle.std.proofs.lemmas.Slice.Eq.{bytes_eq-Decides}
use Rattle.std.specs.Cmp.Lexicographic.{pointwise}
use Rattle.std.specs.Str.{bytes_eq}
use Rattle.tpol_base.proofs.Digests.{same_digest}
use Rattle.tpol_base.specs.Digest.{is_same_digest}
use Rattle.tpol_base.specs.declared.digest.Digest32.{Digest32}

pub digest_is_same : (a b : Digest32) → is_same_digest a b ≡ true → a ≡ b
digest_is_same a b h = same_digest a b ((bytes_eq-Decides a.bytes b.bytes).0 h)

pub digests_are_same : (a b : List Digest32) → pointwise is_same_digest a b ≡ true → a ≡ b
digests_are_same [] [] h = refl
digests_are_same [] (b ∷ others) h = absurd cc
digests_are_same (a ∷ rest) [] h = absurd cc
digests_are_same (a ∷ rest) (b ∷ others) h =
    let parts = and_parts (is_same_digest a b) (pointwise is_same_digest rest others) h in
    λ i. digest_is_same a b parts.0 i ∷ digests_are_same rest others parts.1 i

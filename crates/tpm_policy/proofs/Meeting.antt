-- A digest that passes a rule's test meets the move.
use Rattle.std.proofs.Common.{◌≡◌, Bool, true, false, ◌||◌, List, [], ◌∷◌, inl, inr, refl}
use Rattle.std.specs.List.{list_any}
use Rattle.std.proofs.lemmas.Slice.Eq.{bytes_eq-Decides}
use Rattle.tpol_base.specs.declared.digest.Digest32.{Digest32}
use Rattle.tpol_base.proofs.Digests as digests
use Rattle.tpol_digest.specs.Sound.{Among}
use Rattle.tpol_base.specs.Digest.{is_same_digest}

pub one_digest : (a b : Digest32) → is_same_digest a b ≡ true → a ≡ b
one_digest a b e = digests.same_digest a b ((bytes_eq-Decides a.bytes b.bytes).0 e)

pub among_of : (d : Digest32) (xs : List Digest32) → list_any (is_same_digest d) xs ≡ true → Among d xs
among_of d [] e = cc e
among_of d (x ∷ rest) e = by_test (is_same_digest d x) refl e (among_of d rest)
  where
    by_test : (b : Bool) → is_same_digest d x ≡ b → (b || list_any (is_same_digest d) rest) ≡ true → (list_any (is_same_digest d) rest ≡ true → Among d rest) → Among d (x ∷ rest)
    by_test true same e among = inl (one_digest d x same)
    by_test false same e among = inr (among e)

-- Sublists.
use Rattle.std.proofs.Common.{List, [], ◌∷◌, ◌++◌, refl, inl, inr}
use Rattle.tpol_adopt.specs.Laws.{IsSublist}

module _ {A : Type 0} where
  pub skip : (y : A) (xs ys : List A) → IsSublist xs ys → IsSublist xs (y ∷ ys)
  skip y [] ys is = tt {0}
  skip y (x ∷ xs) ys is = inr is

  pub keep : (x : A) (xs ys : List A) → IsSublist xs ys → IsSublist (x ∷ xs) (x ∷ ys)
  keep x xs ys is = inl (refl, is)

  pub all_kept : (xs : List A) → IsSublist xs xs
  all_kept [] = tt {0}
  all_kept (x ∷ xs) = inl (refl, all_kept xs)

  pub sublist-append : (xs ys us vs : List A) → IsSublist xs ys → IsSublist us vs → IsSublist (xs ++ us) (ys ++ vs)
  sublist-append [] [] us vs front back = back
  sublist-append (x ∷ xs) [] us vs front back = absurd front
  sublist-append [] (y ∷ ys) us vs front back = skip y us (ys ++ vs) (sublist-append [] ys us vs (tt {0}) back)
  sublist-append (x ∷ xs) (y ∷ ys) us vs front back =
      elim front [
        | inl here ↦ inl (here.0, sublist-append xs ys us vs here.1 back)
        | inr later ↦ inr (sublist-append (x ∷ xs) ys us vs later back)
      ]

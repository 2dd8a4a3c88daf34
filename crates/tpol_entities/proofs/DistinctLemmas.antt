-- Keys that differ stay so with one more that differs from each.
use Rattle.std.proofs.Common.{◌≡◌, Bool, true, false, List, [], ◌∷◌, ◌++◌, refl, ap, ◌∙◌}
use Rattle.std.specs.Prelude.{◌||◌, map}
use Rattle.std.specs.List.{IsDistinct, AllByRecursion, list_any}

pub or_false : (a b : Bool) → (a || b) ≡ false → (a ≡ false) × (b ≡ false)
or_false false false e = (refl, refl)
or_false false true e = absurd cc
or_false true b e = absurd cc

pub list_any-map : {X Y : Type 0} (p : Y → Bool) (f : X → Y) (xs : List X) → list_any p (map f xs) ≡ list_any (λ x. p (f x)) xs
list_any-map p f [] = refl
list_any-map p f (x ∷ xs) = ap (λ b. p (f x) || b) (list_any-map p f xs)

none_passes : {K : Type 0} (p : K → Bool) (xs : List K) → list_any p xs ≡ false → AllByRecursion (λ x. p x ≡ false) xs
none_passes p [] e = tt
none_passes p (x ∷ xs) e = let parts = or_false (p x) (list_any p xs) e in (parts.0, none_passes p xs parts.1)

all_with : {K : Type 0} (P : K → Type 0) (xs ys : List K) (k : K) → AllByRecursion P (xs ++ ys) → P k → AllByRecursion P (xs ++ k ∷ ys)
all_with P [] ys k all here = (here, all)
all_with P (x ∷ xs) ys k all here = (all.0, all_with P xs ys k all.1 here)

flipped : {K : Type 0} (e : K → K → Bool) (flips : (x y : K) → e x y ≡ e y x) (xs : List K) (k : K)
    → AllByRecursion (λ x. e x k ≡ false) xs → AllByRecursion (λ x. e k x ≡ false) xs
flipped e flips [] k all = tt
flipped e flips (x ∷ xs) k all = (flips k x ∙ all.0, flipped e flips xs k all.1)

-- a key that no other is equal to may stand anywhere
pub IsDistinct-insert : {K : Type 0} (e : K → K → Bool) (flips : (x y : K) → e x y ≡ e y x) (xs ys : List K) (k : K)
    → IsDistinct e (xs ++ ys) → list_any (λ x. e x k) (xs ++ ys) ≡ false → IsDistinct e (xs ++ k ∷ ys)
unfolding IsDistinct
IsDistinct-insert e flips [] ys k distinct none = (flipped e flips ys k (none_passes (λ x. e x k) ys none), distinct)
IsDistinct-insert e flips (x ∷ xs) ys k distinct none =
    let parts = or_false (e x k) (list_any (λ y. e y k) (xs ++ ys)) none in
    (all_with (λ y. e x y ≡ false) xs ys k distinct.0 parts.0, IsDistinct-insert e flips xs ys k distinct.1 parts.1)

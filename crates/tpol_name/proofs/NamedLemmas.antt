-- The first item whose image passes stands where the first image stands that passes.
use Rattle.std.proofs.Common.{◌≡◌, ℕ, ◌+◌, ◌≤◌, Bool, not, cond, List, [], ◌∷◌, length, map, refl, sym, ap, ◌∙◌, arith}
use Rattle.std.specs.Prelude.{Some, None, find, position, slice_get}
use Rattle.std.specs.List.{position_or_len}
use Rattle.std.proofs.lemmas.Bool.{ltb-false}
use Rattle.std.proofs.lemmas.List.{length-map}
use Rattle.std.proofs.lemmas.List.Folds.{find_at}
use Rattle.std.proofs.lemmas.Option.{slice_get_past}
use Rattle.tpol_name.proofs.PathLemmas.{no_place, same_place}

place_of_image : {A B : Type 0} (p : B → Bool) (f : A → B) (xs : List A) → position_or_len p (map f xs) ≡ position_or_len (λ x. p (f x)) xs
place_of_image p f [] = refl
place_of_image p f (x ∷ xs) = ap (λ n. cond (not (p (f x))) (1 + n) 0) (place_of_image p f xs)

pub image_found : {A B : Type 0} (p : B → Bool) (f : A → B) (xs : List A) (images : List B) (place : ℕ) → images ≡ map f xs → position p images ≡ Some place → slice_get xs place ≡ find (λ x. p (f x)) xs
image_found p f xs images place same h =
    let at : position_or_len (λ x. p (f x)) xs ≡ place = sym (ap (position_or_len p) same ∙ place_of_image p f xs) ∙ same_place _ _ place h in
    sym (find_at (λ x. p (f x)) xs ∙ ap (slice_get xs) at)

pub image_not_found : {A B : Type 0} (p : B → Bool) (f : A → B) (xs : List A) (images : List B) → images ≡ map f xs → position p images ≡ None → None ≡ find (λ x. p (f x)) xs
image_not_found p f xs images same h =
    let past : length images ≤ position_or_len p images = ltb-false _ _ (no_place _ _ h) in
    let place : position_or_len p images ≡ position_or_len (λ x. p (f x)) xs = ap (position_or_len p) same ∙ place_of_image p f xs in
    let long : length images ≡ length xs = ap length same ∙ length-map xs f in
    sym (find_at (λ x. p (f x)) xs ∙ slice_get_past xs (position_or_len (λ x. p (f x)) xs) (omega arith))

-- The first that passes stands where the first place is.
pub first_found : {A : Type 0} (p : A → Bool) (xs : List A) (place : ℕ) → position p xs ≡ Some place → slice_get xs place ≡ find p xs
first_found p xs place h = sym (find_at p xs ∙ ap (slice_get xs) (same_place _ _ place h))

pub none_found : {A : Type 0} (p : A → Bool) (xs : List A) → position p xs ≡ None → None ≡ find p xs
none_found p xs h =
    let past : length xs ≤ position_or_len p xs = ltb-false _ _ (no_place _ _ h) in
    sym (find_at p xs ∙ slice_get_past xs (position_or_len p xs) past)

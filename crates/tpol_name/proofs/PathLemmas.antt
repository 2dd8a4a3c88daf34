-- What stands behind the first element that passes, by the position that `position` gives.
use Rattle.std.proofs.Common.{◌≡◌, ℕ, ◌+◌, ◌≤◌, Bool, true, false, cond, List, [], length, drop, refl, sym, ap, arith}
use Rattle.std.specs.Prelude.{Option, Some, None, position}
use Rattle.std.specs.List.{position_or_len, after_first}
use Rattle.std.proofs.lemmas.Bool.{ltb-false}
use Rattle.std.proofs.lemmas.List.{drop_all}

pub same_place : (b : Bool) (n i : ℕ) → ◌≡◌ {A = Option ℕ} (cond b (Some n) None) (Some i) → n ≡ i
same_place true n i h = cc
same_place false n i h = cc

pub no_place : (b : Bool) (n : ℕ) → ◌≡◌ {A = Option ℕ} (cond b (Some n) None) None → b ≡ false
no_place true n h = cc
no_place false n h = refl

-- behind the place that was found
pub after_first-found : {X : Type 0} (p : X → Bool) (xs : List X) (i : ℕ) → position p xs ≡ Some i → drop (i + 1) xs ≡ after_first p xs
after_first-found p xs i h = ap (λ n. drop (n + 1) xs) (sym (same_place _ _ i h))

-- nothing where none passes
pub after_first-none : {X : Type 0} (p : X → Bool) (xs : List X) → position p xs ≡ None → [] ≡ after_first p xs
after_first-none p xs h =
    let past : length xs ≤ position_or_len p xs = ltb-false _ _ (no_place _ _ h) in
    sym (drop_all (position_or_len p xs + 1) xs (omega arith))

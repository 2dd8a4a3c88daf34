-- The paths that are tried: the first of them from a place on, and those behind it.
use Rattle.std.proofs.Common.{cond, ◌≡◌, ◌<◌, ◌≤◌, ℕ, zero, suc, ◌+◌, Bool, true, false, ◌∙◌, sym, ap, subst, refl, arith, List, [], ◌∷◌, drop, get_or, length, Option, Some, None, is_some, option_map, slice_get, unwrap_or}
use Rattle.std.specs.List.{filter, position, sum_by}
use Rattle.std.proofs.lemmas.List.Quantifiers.{position-Some}
use Rattle.std.proofs.lemmas.List.Sums.{sum_by-cons}
use Rattle.std.proofs.lemmas.List.{drop-drop, get_or-drop, length-drop}
use Rattle.std.proofs.lemmas.Option.{same_Some, unwrap_or-slice_get}
use Rattle.tpol_driver.specs.Blind.{first_complete, is_tried, most_of_path, no_path, plan_at, tried_from}
use Rattle.tpol_driver.specs.declared.blind_plan.BlindPlan.{BlindPlan}
use Rattle.tpol_tree.specs.declared.path.Path.{Path}

-- the first path that passes a test, and those behind it that do, are all that do
split_first : (p : Path → Bool) (f : Path → ℕ) (d : Path) (xs : List Path) (i : ℕ) → i < length xs → p (get_or xs i d) ≡ true → ((k : ℕ) → k < i → p (get_or xs k d) ≡ false)
    → f (get_or xs i d) + sum_by f (filter p (drop (suc i) xs)) ≡ sum_by f (filter p xs)
split_first p f d [] i within is before = absurd (omega arith)
split_first p f d (x ∷ xs) zero within is before =
    subst (λ (b : Bool). f x + sum_by f (filter p xs) ≡ sum_by f (cond b (x ∷ filter p xs) (filter p xs))) (sym is) (sym (sum_by-cons f x (filter p xs)))
split_first p f d (x ∷ xs) (suc i) within is before =
    let not_first : p x ≡ false = before 0 (omega arith) in
    let rest : f (get_or xs i d) + sum_by f (filter p (drop (suc i) xs)) ≡ sum_by f (filter p xs) =
    split_first p f d xs i (omega arith) is (λ k below. before (suc k) (omega arith)) in
    subst (λ (b : Bool). f (get_or xs i d) + sum_by f (filter p (drop (suc i) xs)) ≡ sum_by f (cond b (x ∷ filter p xs) (filter p xs))) (sym not_first) rest

-- how many commands the tries from a place on have at most
abbrev pub most_from : BlindPlan → ℕ → ℕ
most_from plan place = sum_by most_of_path (filter (is_tried plan) (drop place plan.paths))

-- how many that of the path at a place and those behind it
abbrev pub most_at : BlindPlan → ℕ → ℕ
most_at plan place = most_of_path (plan_at plan place).path + most_from plan (place + 1)

-- the first path from a place on
pub record IsFirstFrom (plan : BlindPlan) (place next : ℕ) : Type 0 where
  pub after : place ≤ next
  pub within : next < length plan.paths
  pub most : most_at plan next ≡ most_from plan place

first_from : (plan : BlindPlan) (place index : ℕ) → position (is_tried plan) (drop place plan.paths) ≡ Some index → IsFirstFrom plan place (place + index)
first_from plan place index found =
    let at = position-Some (is_tried plan) (drop place plan.paths) index no_path found in
    let split : most_of_path (get_or (drop place plan.paths) index no_path) + sum_by most_of_path (filter (is_tried plan) (drop (suc index) (drop place plan.paths))) ≡ most_from plan place =
    split_first (is_tried plan) most_of_path no_path (drop place plan.paths) index at.0 at.1 at.2 in
    let path : get_or (drop place plan.paths) index no_path ≡ unwrap_or (slice_get plan.paths (place + index)) no_path =
    get_or-drop place plan.paths index no_path ∙ sym (unwrap_or-slice_get plan.paths (place + index) no_path) in
    let behind : drop (suc index) (drop place plan.paths) ≡ drop (place + index + 1) plan.paths =
    drop-drop (suc index) place plan.paths ∙ ap (λ (n : ℕ). drop n plan.paths) (omega arith) in
    record {
      after = omega arith;
      within = omega (arith, at.0, length-drop place plan.paths);
      most =
          subst (λ (path : Path). most_of_path path + sum_by most_of_path (filter (is_tried plan) (drop (place + index + 1) plan.paths)) ≡ most_from plan place) path
          (subst (λ (behind : List Path). most_of_path (get_or (drop place plan.paths) index no_path) + sum_by most_of_path (filter (is_tried plan) behind) ≡ most_from plan place) behind split);
    }

found_from : (plan : BlindPlan) (place next : ℕ) (found : Option ℕ) → position (is_tried plan) (drop place plan.paths) ≡ found → option_map (λ index. place + index) found ≡ Some next → IsFirstFrom plan place next
found_from plan place next None is there = absurd cc
found_from plan place next (Some index) is there =
    let same : place + index ≡ next = same_Some (place + index) next there in
    subst (λ (n : ℕ). IsFirstFrom plan place n) same (first_from plan place index is)

pub is_first_from : (plan : BlindPlan) (place next : ℕ) → tried_from plan place ≡ Some next → IsFirstFrom plan place next
is_first_from plan place next there = found_from plan place next (position (is_tried plan) (drop place plan.paths)) refl there

-- where there is a first path, there is one from the front on
one_there : (found : Option ℕ) → is_some (option_map (λ (index : ℕ). index + 1) found) ≡ true → option_map (λ (index : ℕ). 0 + index) found ≡ None → ⊥
one_there None some none = cc
one_there (Some index) some none = cc

pub some_from_front : (plan : BlindPlan) → is_some (first_complete plan) ≡ true → tried_from plan 0 ≡ None → ⊥
some_from_front plan some none = one_there (position (is_tried plan) plan.paths) some none

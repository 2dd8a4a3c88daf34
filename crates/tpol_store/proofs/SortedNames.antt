-- Names that rise are the sorted ones of the lists with the same names.
use Rattle.std.proofs.Common.{◌≡◌, refl, sym, ap, ◌∙◌, subst, Less, string_bytes, string_cmp, string_eq, Global, Ordering}
use Rattle.std.specs.Prelude.{ℕ, Bool, true, false, ◌||◌, ◌&&◌, cond, T, List, [], ◌∷◌, map, Option, Some, None, is_some, String}
use Rattle.std.specs.Cmp.{Equal-is}
use Rattle.std.specs.Cmp.Lexicographic.{slice_cmp, nat_list_cmp_total, texts_ties}
use Rattle.std.specs.FinMap as entries
use Rattle.std.specs.FinMap.{FinMap, IsAntisymmetric, find, is_sorted, nat_cmp-IsAntisymmetric, slice_cmp-IsAntisymmetric}
use Rattle.std.specs.FinMap.Entries.{below_all, is_some-find}
use Rattle.std.specs.List.{list_any, dedup, dedup_from, AllByRecursion}
use Rattle.std.specs.List.Retain.{IsFiltered, DiffersFromLast}
use Rattle.std.specs.List.Sorted.{IsPermutation, IsSorted, IsStrictlySortedBy}
use Rattle.std.specs.Ordering.{nat_cmp, eq_by_cmp, is_lt}
use Rattle.std.specs.String.{string_cmp_total}
use Rattle.std.proofs.lemmas.List.Filters.{dedup_is}
use Rattle.std.proofs.lemmas.List.Kept.{IsStrictlySortedBy-dedup}
use Rattle.std.proofs.lemmas.List.Sorted.{list_any-IsPermutation}
use Rattle.tpol_store.specs.FileNames.{as_key, sorted_names}

abbrev name_cmp : List ℕ → List ℕ → Ordering
name_cmp = slice_cmp nat_cmp

-- whether a name is among these
abbrev pub has : List ℕ → List (List ℕ) → Bool
has q names = list_any (eq_by_cmp name_cmp q) names

unmarked : (xs : List (List ℕ)) → map (λ e. e.0) (map as_key xs) ≡ xs
unmarked [] = refl
unmarked (x ∷ xs) = ap (λ names. x ∷ names) (unmarked xs)

nothing : (x : Option (Unit {0})) → x ≡ cond (is_some x) (Some tt) None
nothing None = refl
nothing (Some u) = refl

-- what is found under a name says no more than whether the name is there
found : (q : List ℕ) (xs : List (List ℕ)) → find name_cmp q (map as_key xs) ≡ cond (has q xs) (Some tt) None
found q xs =
    nothing (find name_cmp q (map as_key xs))
    ∙ ap (λ b. cond b (Some tt) None) (is_some-find name_cmp q (map as_key xs) ∙ ap (has q) (unmarked xs))

found_alike : (q : List ℕ) (xs ys : List (List ℕ)) → has q xs ≡ has q ys → find name_cmp q (map as_key xs) ≡ find name_cmp q (map as_key ys)
found_alike q xs ys same = found q xs ∙ ap (λ b. cond b (Some tt) None) same ∙ sym (found q ys)

one_for_each : IsAntisymmetric name_cmp
one_for_each = slice_cmp-IsAntisymmetric nat_cmp-IsAntisymmetric

same_maps : (xs ys : List (List ℕ)) → ((q : List ℕ) → has q xs ≡ has q ys) → entries.from_entries {R = name_cmp} (map as_key xs) ≡ entries.from_entries (map as_key ys)
same_maps xs ys same =
    entries.same_map nat_list_cmp_total one_for_each (entries.from_entries (map as_key xs)) (entries.from_entries (map as_key ys))
    (λ q. entries.get-from_entries nat_list_cmp_total (map as_key xs) q ∙ found_alike q xs ys (same q) ∙ sym (entries.get-from_entries nat_list_cmp_total (map as_key ys) q))

-- lists with the same names have the same sorted names
pub same_names : (xs ys : List (List ℕ)) → ((q : List ℕ) → has q xs ≡ has q ys) → sorted_names xs ≡ sorted_names ys
unfolding sorted_names
same_names xs ys same = ap entries.keys (same_maps xs ys same)

-- ---- names that are sorted and stand once

both : (a b : Bool) → T a → T b → T (a && b)
both true b p q = q
both false b p q = absurd p

below : (x : List ℕ) (xs : List (List ℕ)) → AllByRecursion (λ y. name_cmp x y ≡ Less) xs → T (below_all name_cmp x (map as_key xs))
below x [] all = tt
below x (y ∷ ys) all = subst (λ o. T (is_lt o && below_all name_cmp x (map as_key ys))) (sym all.0) (below x ys all.1)

strict : (xs : List (List ℕ)) → IsStrictlySortedBy name_cmp xs → T (is_sorted name_cmp (map as_key xs))
unfolding IsStrictlySortedBy
strict [] h = tt
strict (x ∷ xs) h = both _ _ (below x xs h.0) (strict xs h.1)

module _ (ys : List (List ℕ)) (rising : IsStrictlySortedBy name_cmp ys) where
  abbrev map_of : FinMap name_cmp (Unit {0})
  map_of = entries.from_sorted (map as_key ys)

  keys_of : entries.keys map_of ≡ ys
  keys_of = ap (map (λ e. e.0)) (entries.entries-from_sorted name_cmp (map as_key ys) (strict ys rising)) ∙ unmarked ys

  pub sorted_is : (xs : List (List ℕ)) → ((q : List ℕ) → has q xs ≡ has q ys) → sorted_names xs ≡ ys
  unfolding sorted_names
  sorted_is xs same =
      ap entries.keys (entries.same_map nat_list_cmp_total one_for_each (entries.from_entries (map as_key xs)) map_of
      (λ q. entries.get-from_entries nat_list_cmp_total (map as_key xs) q ∙ found_alike q xs ys (same q) ∙ sym (entries.get-from_sorted name_cmp (map as_key ys) q (strict ys rising))))
      ∙ keys_of

-- ---- what `sort` and `dedup` leave

any_map : {X Y : Type 0} (p : Y → Bool) (f : X → Y) (xs : List X) → list_any p (map f xs) ≡ list_any (λ x. p (f x)) xs
any_map p f [] = refl
any_map p f (x ∷ xs) = ap (λ b. p (f x) || b) (any_map p f xs)

doubled : (a c : Bool) → (a || c) ≡ (a || (a || c))
doubled true c = refl
doubled false c = refl

twice : (a b c : Bool) → b ≡ a → (a || c) ≡ (a || (b || c))
twice a b c e = subst (λ d. (a || c) ≡ (a || (d || c))) (sym e) (doubled a c)

module _ {X : Type 0} (p : X → Bool) (E : X → X → Bool) (alike : (x k : X) → E x k ≡ true → p x ≡ p k) where
  any_dedup_from : (k : X) (xs : List X) → list_any p (dedup_from E k xs) ≡ (p k || list_any p xs)
  any_dedup_from k [] = refl
  any_dedup_from k (x ∷ xs) =
      elim (E x k) as (λ b. E x k ≡ b → list_any p (cond b (dedup_from E k xs) (k ∷ dedup_from E x xs)) ≡ (p k || (p x || list_any p xs))) [
        | true ↦ λ e. any_dedup_from k xs ∙ twice (p k) (p x) (list_any p xs) (alike x k e)
        | false ↦ λ e. ap (λ b. p k || b) (any_dedup_from x xs)
      ] refl

  any_dedup : (xs : List X) → list_any p (dedup E xs) ≡ list_any p xs
  any_dedup [] = refl
  any_dedup (x ∷ xs) = any_dedup_from x xs

all_map : (x : String Global) (xs : List (String Global)) → AllByRecursion (λ y. string_cmp x y ≡ Less) xs → AllByRecursion (λ y. name_cmp (string_bytes x) y ≡ Less) (map string_bytes xs)
all_map x [] all = tt
all_map x (y ∷ ys) all = (all.0, all_map x ys all.1)

strict_map : (xs : List (String Global)) → IsStrictlySortedBy string_cmp xs → IsStrictlySortedBy name_cmp (map string_bytes xs)
unfolding IsStrictlySortedBy
strict_map [] h = tt
strict_map (x ∷ xs) h = (all_map x xs h.0, strict_map xs h.1)

same_text : (x y : String Global) → string_eq x y ≡ true → string_bytes x ≡ string_bytes y
same_text x y e =
    slice_cmp-IsAntisymmetric nat_cmp-IsAntisymmetric (string_bytes x) (string_bytes y)
    ((Equal-is (name_cmp (string_bytes x) (string_bytes y))).0 (sym (texts_ties (string_bytes x) (string_bytes y)) ∙ e))

-- a list that is sorted, and then each name once, is the sorted names
pub sorted_once : (all ordered once : List (String Global)) → IsPermutation all ordered → IsSorted string_cmp ordered → IsFiltered (DiffersFromLast string_eq) [] ordered once → map string_bytes once ≡ sorted_names (map string_bytes all)
sorted_once all ordered once moved rising filtered =
    let names = map string_bytes (dedup string_eq ordered) in
    let is_strict = strict_map (dedup string_eq ordered) (IsStrictlySortedBy-dedup string_cmp_total (λ x y. texts_ties (string_bytes x) (string_bytes y)) ordered rising) in
    ap (map string_bytes) (dedup_is string_eq ordered once filtered)
    ∙ sym (sorted_is names is_strict (map string_bytes all) (λ q.
    let p : String Global → Bool = λ x. eq_by_cmp name_cmp q (string_bytes x) in
    any_map (eq_by_cmp name_cmp q) string_bytes all
    ∙ list_any-IsPermutation p all ordered moved
    ∙ sym (any_dedup p string_eq (λ x k e. ap (eq_by_cmp name_cmp q) (same_text x k e)) ordered)
    ∙ sym (any_map (eq_by_cmp name_cmp q) string_bytes (dedup string_eq ordered))))

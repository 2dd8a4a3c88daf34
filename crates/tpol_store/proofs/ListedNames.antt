-- The names of a shelf's policies are the same in whichever order the shelf lists them.
use Rattle.std.proofs.Common.{◌≡◌, refl, sym, ap, ◌∙◌, subst}
use Rattle.std.specs.Prelude.{ℕ, Bool, false, ◌||◌, List, [], ◌∷◌, Option, Some, None, Result, Ok, IfSome}
use Rattle.std.specs.List.{cons_option, list_any, filter_map}
use Rattle.std.specs.List.Sorted.{IsPermutation}
use Rattle.std.proofs.lemmas.List.Sorted.{list_any-IsPermutation}
use Rattle.tpol_base.specs.declared.document.Document.{Document}
use Rattle.tpol_base.specs.Documents.{names_of}
use Rattle.tpol_store.specs.declared.fault.StoreFault.{StoreFault}
use Rattle.tpol_store.specs.FileNames.{policy_name}
use Rattle.tpol_store.specs.Loading.{Loads, documents_from, few_names, names_of_shelf, store_of, unless_many}
use Rattle.tpol_store.specs.Stores.{NamedPolicy}
use Rattle.tpol_store.proofs.SortedNames.{same_names}

module _ {X Y : Type 0} (p : Y → Bool) (f : X → Option Y) where
  abbrev passes : Option Y → Bool
  passes None = false
  passes (Some y) = p y

  any_first : (first : Option Y) (ys : List Y) → list_any p (cons_option first ys) ≡ (passes first || list_any p ys)
  any_first None ys = refl
  any_first (Some y) ys = refl

  any_filter_map : (xs : List X) → list_any p (filter_map f xs) ≡ list_any (λ x. passes (f x)) xs
  any_filter_map [] = refl
  any_filter_map (x ∷ xs) = any_first (f x) (filter_map f xs) ∙ ap (λ b. passes (f x) || b) (any_filter_map xs)

few_permuted : (xs ys : List (List ℕ)) → IsPermutation xs ys → few_names xs ≡ few_names ys
unfolding few_names
few_permuted xs ys moved =
    ap unless_many (same_names (filter_map policy_name xs) (filter_map policy_name ys)
    (λ q. any_filter_map _ policy_name xs ∙ list_any-IsPermutation _ xs ys moved ∙ sym (any_filter_map _ policy_name ys)))

-- the names that are listed are those of the shelf
pub listed_are_of_shelf : {X : Type 0} (view : X → List (List ℕ)) (documents : Option (List Document)) (listed : List (List ℕ)) (result : Result X StoreFault) → IfSome documents (λ all. IsPermutation (names_of all) listed) → Loads view (few_names listed) result → IfSome documents (λ all. Loads view (names_of_shelf all) result)
listed_are_of_shelf view None listed result moved loads = tt
listed_are_of_shelf view (Some all) listed result moved loads =
    subst (λ loading. Loads view loading result) (sym (few_permuted (names_of all) listed moved)) loads

-- the documents of a shelf's names are its store
pub read_is_loaded : {X : Type 0} (view : X → List NamedPolicy) (documents : Option (List Document)) (names : List (List ℕ)) (result : Result X StoreFault) → IfSome documents (λ all. names_of_shelf all ≡ Ok names) → IfSome documents (λ all. Loads view (documents_from [] names all) result) → IfSome documents (λ all. Loads view (store_of all) result)
read_is_loaded view None names result few loads = tt
read_is_loaded view (Some all) names result few loads = rw few loads

-- The items of a list are set, one after another.
use Rattle.std.proofs.Common.{◌≡◌, ℕ, zero, suc, ◌+◌, List, [], ◌∷◌, ◌++◌, map, take, drop, None, Some, refl, ap, sym, ◌∙◌, add-one}
use Rattle.std.specs.Prelude.{slice_get, slice_set}
use Rattle.std.proofs.lemmas.Option.{none-some, same_Some}

module _ {A : Type 0} (change : A → A) where
  -- the items before the index are set, the others are as they were
  abbrev pub set_before : ℕ → List A → List A
  set_before index items = map change (take index items) ++ drop index items

  next : (items : List A) (index : ℕ) (item : A) → slice_get (set_before index items) index ≡ Some item
      → slice_set (set_before index items) index (change item) ≡ set_before (suc index) items
  next [] zero item is = absurd (none-some item is)
  next [] (suc index) item is = absurd (none-some item is)
  next (first ∷ rest) zero item is = ap (λ a. change a ∷ rest) (sym (same_Some first item is))
  next (first ∷ rest) (suc index) item is = ap (λ items. change first ∷ items) (next rest index item is)

  pub next_set : (items : List A) (index : ℕ) (item : A) → slice_get (set_before index items) index ≡ Some item
      → slice_set (set_before index items) index (change item) ≡ set_before (index + 1) items
  next_set items index item is = next items index item is ∙ ap (λ n. set_before n items) (sym (add-one index))

  past : (items : List A) (index : ℕ) → slice_get (set_before index items) index ≡ None → set_before index items ≡ set_before (suc index) items
  past [] zero none = refl
  past [] (suc index) none = refl
  past (first ∷ rest) zero none = absurd (none-some first (sym none))
  past (first ∷ rest) (suc index) none = ap (λ items. change first ∷ items) (past rest index none)

  -- where no item is at the index, all are set
  pub none_set : (items : List A) (index : ℕ) → slice_get (set_before index items) index ≡ None → set_before index items ≡ set_before (index + 1) items
  none_set items index none = past items index none ∙ ap (λ n. set_before n items) (sym (add-one index))

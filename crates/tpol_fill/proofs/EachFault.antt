-- The faults of a list's items, as a loop over them meets them.
use Rattle.std.proofs.Common.{◌≡◌, ℕ, ◌+◌, ◌<◌, ◌≤◌, List, [], ◌∷◌, ◌++◌, length, get_or, drop, ap, ◌∙◌}
use Rattle.std.specs.Prelude.{Some, slice_get}
use Rattle.std.proofs.lemmas.List.{at_drop_more, drop_all}
use Rattle.tpol_fill.specs.Outcome.{Fault, each_fault}

module _ {A : Type 0} (faults : ℕ → A → List Fault) (items : List A) (i : ℕ) where
  -- an item without a fault is passed over
  pub each_fault-more : (d : A) → i < length items → faults i (get_or items i d) ≡ [] → each_fault faults i (drop i items) ≡ each_fault faults (i + 1) (drop (i + 1) items)
  each_fault-more d h e =
      at_drop_more (each_fault faults i) items i d h
      ∙ ap (λ first. first ++ each_fault faults (i + 1) (drop (i + 1) items)) e

  -- the first fault of an item is the first of what is left
  pub each_fault-stop : (d : A) (fault : Fault) → i < length items → faults i (get_or items i d) ≡ fault ∷ [] → slice_get (each_fault faults i (drop i items)) 0 ≡ Some fault
  each_fault-stop d fault h e =
      ap (λ all. slice_get all 0) (at_drop_more (each_fault faults i) items i d h
      ∙ ap (λ first. first ++ each_fault faults (i + 1) (drop (i + 1) items)) e)

  -- past the last item there is none
  pub each_fault-end : length items ≤ i → each_fault faults i (drop i items) ≡ []
  each_fault-end h = ap (each_fault faults i) (drop_all i items h)

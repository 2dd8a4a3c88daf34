-- What a run does with the source and with the shelf.
use Rattle.std.specs.Prelude.{◌≡◌, ◌≤◌, ◌⊎◌, ℕ, List, drop, Bool, false, IsTrue, Option, Some, IfSome, Result, IsErrOf}
use Rattle.tpol_base.specs.Causes.{Rose}
use Rattle.tpol_front.specs.Report.{most_read}
use Rattle.tpol_front.specs.Status.{IsPastReadingResult}
use Rattle.tpol_steps.specs.declared.halt.Halt.{Halt}
use Rattle.tpol_steps.specs.declared.halt.Halt.TheVariants.{ReadFailed, ShelfFailed}

-- what a source tells that it holds is what it told before, but for at most so many bytes at the front
abbrev pub LosesAtMost : ℕ → Option (List ℕ) → Option (List ℕ) → Type 0
LosesAtMost most old new = IfSome old (λ held. (n : ℕ) × (n ≤ most) × (new ≡ Some (drop n held)))

-- What a call does with the source, which it may read or not: where it does, it reads it to its end, or to byte
-- `most_read`, unless the source failed or memory ran out.
pub record AsksSource {S T : Type 0} (may : Bool) (old new : S) (held left : Option (List ℕ)) (before now : ℕ) (result : Result T Halt) : Type 0 where
  pub untouched : may ≡ false → new ≡ old
  pub whole : IsTrue may → IsPastReadingResult result → IfSome held (λ bytes. left ≡ Some (drop most_read bytes))
  pub at_most : LosesAtMost most_read held left
  pub later : before ≤ now
  pub failed : IsErrOf result ReadFailed → Rose before now
  pub stays : IsErrOf result ReadFailed ⊎ (now ≡ before)
  pub named : IsErrOf result ReadFailed → IsTrue may

-- What a call does with the shelf, which it may use or not, and which it asks only once what the source held has come
-- so far.
pub record UsesShelf {S T : Type 0} (may : Bool) (held : Option (List ℕ)) (HasCome : List ℕ → Type 0) (old new : S) (before now : ℕ) (result : Result T Halt) : Type 0 where
  pub untouched : may ≡ false → new ≡ old
  pub asked : IfSome held (λ bytes. (new ≡ old) ⊎ HasCome bytes)
  pub later : before ≤ now
  pub failed : IsErrOf result ShelfFailed → Rose before now
  pub stays : IsErrOf result ShelfFailed ⊎ (now ≡ before)
  pub named : IsErrOf result ShelfFailed → IsTrue may

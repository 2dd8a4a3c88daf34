-- Choices that go on by those of one path.
use Rattle.std.specs.Prelude.{◌≡◌, ℕ, List, ◌++◌, Some}
use Rattle.std.specs.List.{AllByRecursion, slice_get}
use Rattle.tpol_cert.specs.declared.choice.Choice.{Choice}
use Rattle.tpol_cert.specs.Spelling.{ChoiceFits}

-- choices that go on by those at an index, from 0; each of these has a spelling
pub record GoesOn (before : List Choice) (all : List (List Choice)) (index : ℕ) (after : List Choice) : Type 0 where
  pub choices : List Choice
  pub is_there : slice_get all index ≡ Some choices
  pub fits : AllByRecursion ChoiceFits choices
  pub follows : after ≡ before ++ choices

-- Where choices lead among those of a part of a policy.
use Rattle.std.specs.Prelude.{◌≡◌, ℕ, ◌+◌, ◌<◌, max, ⊤, List, [], ◌∷◌, ◌++◌, length, Some, false, if◌then◌else◌}
use Rattle.std.specs.List.{AllByRecursion, slice_get}
use Rattle.tpol_cert.specs.declared.choice.Choice.{Choice}
use Rattle.tpol_cert.specs.declared.follow.Stray.{Stray}
use Rattle.tpol_cert.specs.declared.follow.Stray.TheVariants.{At, NoMemory}
use Rattle.tpol_cert.specs.Choices.{same_choice}

-- how many first choices are the same
abbrev pub common : List Choice → List Choice → ℕ
common (a ∷ xs) (b ∷ ys) = if same_choice a b then common xs ys + 1 else 0
common _ _ = 0

-- the most that steps have in common with the choices of a path
abbrev pub most : List Choice → List (List Choice) → ℕ
most steps [] = 0
most steps (choices ∷ rest) = max (common steps choices) (most steps rest)

-- the steps begin with the choices at an index, from 0, behind which these are left
pub record Leads (all : List (List Choice)) (steps : List Choice) (index : ℕ) (left : List Choice) : Type 0 where
  pub choices : List Choice
  pub is_there : slice_get all index ≡ Some choices
  pub follows : steps ≡ choices ++ left

-- the steps begin with the choices of no path, and agree with those of one up to where these are left, and no further
pub record Strays (all : List (List Choice)) (steps left : List Choice) : Type 0 where
  pub reached : length left + most steps all ≡ length steps
  pub none : AllByRecursion (λ choices. common steps choices < length choices) all

abbrev pub IsStray : List (List Choice) → List Choice → Stray → Type 0
IsStray all steps NoMemory = ⊤
IsStray all steps (At left) = Strays all steps left.now

-- the first step, if there is one, is not this choice
abbrev pub Misses : Choice → List Choice → Type 0
Misses choice [] = ⊤
Misses choice (first ∷ rest) = same_choice first choice ≡ false

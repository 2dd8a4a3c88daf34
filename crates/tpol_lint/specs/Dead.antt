-- Paths whose moves no command can meet together.
use Rattle.std.specs.Prelude.{◌≡◌, ℕ, ◌+◌, ◌-◌, ◌<◌, ◌≤◌, Bool, false, List, [], ◌∷◌, ◌++◌, Any, length, take, slice_get, Option, Some, None, if◌then◌else◌}
use Rattle.std.specs.Option.{option_map}
use Rattle.tpol_tree.specs.declared.path.Move.{Move}
use Rattle.tpol_tree.specs.declared.path.Path.{Path}
use Rattle.tpm_bindings.specs.declared.disagreement.Disagreement.{Disagreement}
use Rattle.tpm_bindings.specs.Agreement.{Agree, disagreement}
use Rattle.tpm_bindings.specs.Held.{listed}
use Rattle.tpol_lint.specs.declared.dead.Dead.{Dead}

-- a rule that is broken, and how many first moves break one
abbrev pub Break : Type 0
Break = ℕ × Disagreement

abbrev pub or_later : ℕ → Option Disagreement → Option Break → Option Break
or_later n (Some rule) later = Some (n, rule)
or_later n None later = later

-- the least number of first moves that do not agree, and the first rule that these break; `before` are those that
-- have been looked at
abbrev pub first_break_behind : List Move → List Move → Option Break
first_break_behind before [] = None
first_break_behind before (act ∷ rest) =
    or_later (length before + 1) (disagreement (before ++ act ∷ [])) (first_break_behind (before ++ act ∷ []) rest)

abbrev pub first_break : List Move → Option Break
first_break moves = first_break_behind [] moves

-- what is reported of a path at a position: nothing of one that is outside
abbrev pub dead_by : ℕ → Bool → Option Break → Option Dead
dead_by position outside broken =
    if outside then None else option_map (λ found. record { path = position; rule = found.1; at = found.0 }) broken

abbrev pub dead_of : ℕ → Path → Option Dead
dead_of position path = dead_by position path.outside (first_break path.moves)

-- the dead ones of paths, the first of which stands at this position
abbrev pub dead_paths : ℕ → List Path → List Dead
dead_paths position [] = []
dead_paths position (path ∷ rest) = listed (dead_of position path) ++ dead_paths (position + 1) rest

-- ---- what it means

-- the path at its position is not outside, its first `at` moves break this rule first, and fewer agree
pub record IsDead (paths : List Path) (dead : Dead) : Type 0 where
  pub path : Path
  pub counted : 1 ≤ dead.path
  pub is_there : slice_get paths (dead.path - 1) ≡ Some path
  pub inside : path.outside ≡ false
  pub broken : disagreement (take dead.at path.moves) ≡ Some dead.rule
  pub least : (n : ℕ) → n < dead.at → Agree (take n path.moves)

-- each path that is not outside and whose moves do not agree is among them
abbrev pub HasEachDead : List Path → List Dead → Type 0
HasEachDead paths dead =
    (index : ℕ) (path : Path) → slice_get paths index ≡ Some path → path.outside ≡ false → (Agree path.moves → ⊥)
    → Any (λ one. one.path ≡ index + 1) dead

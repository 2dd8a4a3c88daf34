-- What a walk through a policy looks for, over the list of its paths.
use Rattle.std.specs.Prelude.{ℕ, ◌+◌, Bool, false, if◌then◌else◌, List, [], ◌∷◌, Option, Some, None}
use Rattle.std.specs.Option.{option_and_then}
use Rattle.tpol_tree.specs.declared.path.Move.{Move}
use Rattle.tpol_tree.specs.declared.path.Path.{Path}

-- the state after moves in a row, where each takes a state to the next or refuses
abbrev pub run_moves : {S : Type 0} → (S → Move → Option S) → S → List Move → Option S
run_moves step s [] = Some s
run_moves step s (act ∷ rest) = option_and_then (λ next. run_moves step next rest) (step s act)

-- a state is there, and the test takes it
abbrev pub ends_well : {S : Type 0} → (S → Bool) → Option S → Bool
ends_well test None = false
ends_well test (Some s) = test s

-- the position of the first path that a test takes, where n is the position of the first in the list
abbrev pub first_path : (Path → Bool) → ℕ → List Path → Option ℕ
first_path test n [] = None
first_path test n (path ∷ rest) = if test path then Some n else first_path test (n + 1) rest

-- the same of the path whose moves lead from s to a state that a test takes
abbrev pub first_way : {S : Type 0} → (S → Move → Option S) → (S → Bool) → ℕ → S → List Path → Option ℕ
first_way step test n s paths = first_path (λ path. ends_well test (run_moves step s path.moves)) n paths

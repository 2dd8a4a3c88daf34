-- How many commands a run on a path sends, up to that of its goal.
use Rattle.std.specs.Prelude.{ℕ, ◌+◌, List, [], ◌∷◌}
use Rattle.tpol_tree.specs.declared.path.Move.{Move}
use Rattle.tpol_tree.specs.declared.path.Move.TheVariants.{Approve}
use Rattle.tpol_tree.specs.declared.path.Path.{Path}

-- one for each move, and one more for an approval by a key, whose signature is verified first
abbrev pub commands_of_move : Move → ℕ
commands_of_move (Approve key policy_ref approved signature) = 2
commands_of_move _ = 1

abbrev pub commands_of_moves : List Move → ℕ
commands_of_moves [] = 0
commands_of_moves (act ∷ rest) = commands_of_move act + commands_of_moves rest

-- the start of its session, those of its moves, and the goal's
abbrev pub commands_along : Path → ℕ
commands_along path = 1 + commands_of_moves path.moves + 1

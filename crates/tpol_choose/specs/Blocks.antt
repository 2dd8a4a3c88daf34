-- The first thing that stands in the way of a path, and the first path that has none.
use Rattle.std.specs.Prelude.{ℕ, ◌+◌, ◌==◌, Bool, List, [], ◌∷◌, Option, is_none, not, option_map}
use Rattle.tpm_bindings.specs.State.{SessionState}
use Rattle.tpm_rules.specs.Rule.{or_else, unless}
use Rattle.tpol_choose.specs.declared.block.Block.{Block}
use Rattle.tpol_choose.specs.declared.block.Why.{Why}
use Rattle.tpol_choose.specs.declared.block.Why.TheVariants.{Outside, NoSession}
use Rattle.tpol_choose.specs.Clients.{Client}
use Rattle.tpol_choose.specs.Facts.{fresh_session, session_after}
use Rattle.tpol_choose.specs.Goals.{goal_block}
use Rattle.tpol_choose.specs.Moves.{move_block}
use Rattle.tpol_digest.specs.Walks.{first_path}
use Rattle.tpol_goal.specs.declared.goal.Goal.{Goal}
use Rattle.tpol_goal.specs.declared.grants.Grants.{Grants}
use Rattle.tpol_name.specs.declared.sight.Sight.{Sight}
use Rattle.tpol_tree.specs.declared.path.Move.{Move}
use Rattle.tpol_tree.specs.declared.path.Path.{Path}

-- at a move, by its number from 1, or at the whole path or the goal, by 0
abbrev pub block_of : ℕ → Option Why → Option Block
block_of at why = option_map (λ w. record { at = at; why = w }) why

-- move after move, the first of which has this number, and then the goal
abbrev pub moves_block : Client → ℕ → SessionState → List Move → Option Block
moves_block client number session [] = block_of 0 (goal_block client session)
moves_block client number session (act ∷ rest) =
    or_else (block_of number (move_block client session act))
    (moves_block client (number + 1) (session_after client.sight session act) rest)

-- a path that is outside, and then that no session is free
abbrev pub whole_block : Sight → Bool → Option Block
whole_block sight outside =
    or_else (block_of 0 (unless (not outside) Outside)) (block_of 0 (unless (not (sight.free_sessions == 0)) NoSession))

-- and then the moves and the goal
abbrev pub block_on : Client → Path → Option Block
block_on client path =
    or_else (whole_block client.sight path.outside)
    (moves_block client 1 (fresh_session client.sight) path.moves)

abbrev pub client_of : Sight → Grants → Goal → ℕ → Client
client_of sight grants goal locality =
    record { sight = sight; grants = grants; goal = goal; locality = locality }

-- the first thing that stands in the way of a path
unfoldable pub first_block : Path → Sight → Grants → Goal → ℕ → Option Block
first_block path sight grants goal locality = block_on (client_of sight grants goal locality) path

-- whether nothing does
abbrev pub is_open : Sight → Grants → Goal → ℕ → Path → Bool
is_open sight grants goal locality path = is_none (first_block path sight grants goal locality)

-- the position, from 1, of the first path that is open
unfoldable pub chosen_path : List Path → Sight → Grants → Goal → ℕ → Option ℕ
chosen_path paths sight grants goal locality = first_path (is_open sight grants goal locality) 1 paths

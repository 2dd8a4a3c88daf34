-- Runs as a script begins them.
use Rattle.std.specs.Prelude.{◌≡◌, ◌≤◌, true, All, length, map}
use Rattle.tpol_digest.specs.Laws.{MoveHasBounds}
use Rattle.tpol_driver.specs.Plans.{is_complete}
use Rattle.tpol_goal.specs.Goals.{IsGoal, IsGoalAmong}
use Rattle.tpol_goal.specs.Grants.{IsGrants}
use Rattle.tpol_name.specs.Directories.{directory_of}
use Rattle.tpol_name.specs.Setups.{IsSetup}
use Rattle.tpol_laws.specs.Acts.{Run}
use Rattle.tpol_laws.specs.HeldTickets.{TicketHasBounds}

-- The machine starts from a scene, the plan has the scene's directory and grants, its tickets and each move of its path
-- are within the bounds of the wire, and the plan is complete.
pub record IsRun (run : Run) : Type 0 where
  pub setup : IsSetup run.setup
  pub directory : run.plan.directory ≡ directory_of run.setup
  pub tickets : All TicketHasBounds run.plan.tickets
  pub grants : IsGrants run.plan.grants
  pub moves : All MoveHasBounds run.plan.path.moves
  pub complete : is_complete run.plan ≡ true

-- The same but for the last, and besides: the path has at most 512 moves, and the goal's fields fit into its
-- command, which is one on the scene's entities.
pub record IsBegun (run : Run) : Type 0 where
  pub setup : IsSetup run.setup
  pub directory : run.plan.directory ≡ directory_of run.setup
  pub tickets : All TicketHasBounds run.plan.tickets
  pub grants : IsGrants run.plan.grants
  pub moves : All MoveHasBounds run.plan.path.moves
  pub short : length run.plan.path.moves ≤ 512
  pub fits : IsGoal run.plan.goal
  pub among : IsGoalAmong (map (λ o. o.handle) run.setup.objects) (map (λ i. i.public.index) run.setup.indices) run.plan.goal

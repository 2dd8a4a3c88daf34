-- A run begins: on the first path of its policy that its client can go, or on none, with the tickets that its client
-- can use where these are asked for; or blindly.
use Rattle.std.specs.Prelude.{ℕ, ◌+◌, ◌-◌, List, [], ◌∷◌, Option, Some, None, slice_get}
use Rattle.tpm_engine.specs.Sights.{sight_after}
use Rattle.tpol_choose.specs.declared.block.Block.{Block}
use Rattle.tpol_choose.specs.Blocks.{chosen_path, first_block}
use Rattle.tpol_driver.specs.declared.plan.Plan.{Plan}
use Rattle.tpol_driver.specs.declared.tickets.HeldTicket.{HeldTicket}
use Rattle.tpol_lines.specs.BlockLine.{block_line}
use Rattle.tpol_lines.specs.Runs.{chosen_line, nobranch_line}
use Rattle.tpol_name.specs.declared.sight.Sight.{Sight}
use Rattle.tpol_runs.specs.Courses.{begun}
use Rattle.tpol_perform.specs.declared.new_run.NewRun.{NewRun}
use Rattle.tpol_prepare.specs.declared.scenario.Scenario.{Scenario}
use Rattle.tpol_perform.specs.Blind.{begun_blindly}
use Rattle.tpol_perform.specs.NewRuns.{run_seed, with_new_run}
use Rattle.tpol_perform.specs.Performance.{PerformanceState, with_line}
use Rattle.tpol_perform.specs.Tickets.{tickets_given}
use Rattle.tpol_prepare.specs.declared.manner.Way.{Way}
use Rattle.tpol_prepare.specs.declared.manner.Way.TheVariants.{Blind, Sighted, WithTickets}
use Rattle.tpol_prepare.specs.Manner.{way_of}
use Rattle.tpol_prepare.specs.Scenario.{paths_named}
use Rattle.tpol_tree.specs.declared.path.Path.{Path}
use Rattle.tpol_tree.specs.declared.path.PathStep.{PathStep}

-- what a run along this path is to do, with these tickets
abbrev pub plan_along : Scenario → List HeldTicket → Path → NewRun → Plan
plan_along scenario tickets path run = record {
  path = path;
  goal = run.goal;
  grants = run.grants;
  directory = scenario.directory;
  nonce_seed = run_seed scenario.seed run.number;
  tickets = tickets;
}

-- on the path at this position
abbrev pub begun_along : Scenario → List HeldTicket → ℕ → NewRun → Option Path → PerformanceState → PerformanceState
begun_along scenario tickets position run None p = p
begun_along scenario tickets position run (Some path) p =
    with_line (chosen_line run.number position path.steps)
    (with_new_run run.number (Some (begun run.client run.locality (plan_along scenario tickets path run))) p)

-- the line of what stands in the way of a path
abbrev pub with_block : ℕ → List PathStep → Option Block → PerformanceState → PerformanceState
with_block position steps None p = p
with_block position steps (Some block) p = with_line (block_line position steps block) p

-- the same of each of these paths, from this position on
unfoldable pub with_blocks : Sight → NewRun → ℕ → List Path → PerformanceState → PerformanceState
with_blocks sight run position [] p = p
with_blocks sight run position (path ∷ rest) p =
    with_blocks sight run (position + 1) rest
    (with_block position path.steps (first_block path sight run.grants run.goal run.locality) p)

-- on no path
unfoldable pub begun_nowhere : Sight → NewRun → List Path → PerformanceState → PerformanceState
begun_nowhere sight run paths p =
    with_blocks sight run 1 paths (with_line (nobranch_line run.number) (with_new_run run.number None p))

abbrev pub begun_at : Scenario → Sight → List Path → NewRun → Option ℕ → PerformanceState → PerformanceState
begun_at scenario sight paths run None p = begun_nowhere sight run paths p
begun_at scenario sight paths run (Some position) p =
    begun_along scenario (tickets_given (way_of scenario.manner) run.client sight p.kept)
    position run (slice_get paths (position - 1)) p

-- the run begins, with what the machine shows now
unfoldable pub begun_on : Scenario → Sight → List Path → NewRun → PerformanceState → PerformanceState
begun_on scenario sight paths run p =
    begun_at scenario sight paths run (chosen_path paths sight run.grants run.goal run.locality) p

-- a run of the policy of this name begins, with what the machine shows now
unfoldable pub begun_in_sight : Scenario → List ℕ → NewRun → PerformanceState → PerformanceState
begun_in_sight scenario policy run p =
    begun_on scenario (sight_after p.setup p.past) (paths_named scenario policy) run p

-- as the runs of the scene are driven
abbrev pub begun_by : Way → Scenario → List ℕ → NewRun → PerformanceState → PerformanceState
begun_by Sighted scenario policy run p = begun_in_sight scenario policy run p
begun_by Blind scenario policy run p = begun_blindly scenario policy run p
begun_by WithTickets scenario policy run p = begun_in_sight scenario policy run p

-- a run of the policy of this name begins
unfoldable pub run_begun : Scenario → List ℕ → NewRun → PerformanceState → PerformanceState
run_begun scenario policy run p = begun_by (way_of scenario.manner) scenario policy run p

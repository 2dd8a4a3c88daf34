-- A blind run: it begins without a view of the machine, and at its end the path is told that was served, or what became
-- of each path.
use Rattle.std.specs.Prelude.{ℕ, ◌+◌, ◌-◌, List, [], ◌∷◌, Option, Some, None, slice_get}
use Rattle.tpol_driver.specs.declared.blind_end.BlindEnd.{BlindEnd}
use Rattle.tpol_driver.specs.declared.blind_end.BlindEnd.TheVariants as blind_ends
use Rattle.tpol_driver.specs.declared.blind_end.Tried.{Tried}
use Rattle.tpol_driver.specs.declared.blind_plan.BlindPlan.{BlindPlan}
use Rattle.tpol_driver.specs.declared.end.End.TheVariants as ends
use Rattle.tpol_driver.specs.Blind.{first_complete, none_tried}
use Rattle.tpol_lines.specs.Runs.{blind_line, chosen_line, end_line, nobranch_line}
use Rattle.tpol_lines.specs.TriedLine.{tried_line}
use Rattle.tpol_runs.specs.Courses.{begun_blind}
use Rattle.tpol_runs.specs.Underway.{Underway}
use Rattle.tpol_perform.specs.declared.new_run.NewRun.{NewRun}
use Rattle.tpol_prepare.specs.declared.scenario.Scenario.{Scenario}
use Rattle.tpol_perform.specs.NewRuns.{run_seed, with_new_run}
use Rattle.tpol_perform.specs.Performance.{PerformanceState, with_line}
use Rattle.tpol_prepare.specs.Scenario.{paths_named}
use Rattle.tpol_tree.specs.declared.path.Path.{Path}

-- ---- what became of paths

-- the line of each of these paths, from this position on, with what became of it
unfoldable pub with_tries : ℕ → List Path → List Tried → PerformanceState → PerformanceState
with_tries position [] tries p = p
with_tries position (path ∷ paths) [] p = p
with_tries position (path ∷ paths) (tried ∷ tries) p =
    with_tries (position + 1) paths tries (with_line (tried_line position path.steps tried) p)

-- no path was served
abbrev pub with_nobranch : ℕ → List Path → List Tried → PerformanceState → PerformanceState
with_nobranch number paths tries p = with_tries 1 paths tries (with_line (nobranch_line number) p)

-- ---- its begin

-- what it is to do on these paths
abbrev pub blind_plan : Scenario → List Path → NewRun → BlindPlan
blind_plan scenario paths run = record {
  paths = paths;
  goal = run.goal;
  grants = run.grants;
  directory = scenario.directory;
  nonce_seed = run_seed scenario.seed run.number;
}

-- where no path can be tried the run is over at once
abbrev pub begun_on_tries : ℕ → Underway → BlindPlan → Option ℕ → PerformanceState → PerformanceState
begun_on_tries number run plan None p =
    with_nobranch number plan.paths (none_tried plan) (with_new_run number None p)
begun_on_tries number run plan (Some position) p = with_new_run number (Some run) p

abbrev pub begun_by_plan : List ℕ → NewRun → BlindPlan → PerformanceState → PerformanceState
begun_by_plan policy run plan p =
    begun_on_tries run.number (begun_blind run.client run.locality policy plan) plan (first_complete plan)
    (with_line (blind_line run.number) p)

-- a blind run of the policy of this name begins
unfoldable pub begun_blindly : Scenario → List ℕ → NewRun → PerformanceState → PerformanceState
begun_blindly scenario policy run p = begun_by_plan policy run (blind_plan scenario (paths_named scenario policy) run) p

-- ---- its end

abbrev pub with_path : ℕ → ℕ → Option Path → PerformanceState → PerformanceState
with_path number position None p = p
with_path number position (Some path) p = with_line (chosen_line number position path.steps) p

-- of a run on these paths
unfoldable pub with_blind_end : ℕ → List Path → BlindEnd → PerformanceState → PerformanceState
with_blind_end number paths (blind_ends.Served position bytes) p =
    with_line (end_line number (ends.Served bytes)) (with_path number position (slice_get paths (position - 1)) p)
with_blind_end number paths (blind_ends.NoBranch tries) p = with_nobranch number paths tries p
with_blind_end number paths (blind_ends.Denied at rc) p = with_line (end_line number (ends.Denied at rc)) p
with_blind_end number paths (blind_ends.BadReply at) p = with_line (end_line number (ends.BadReply at)) p

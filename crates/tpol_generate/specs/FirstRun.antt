-- A scene of one run.
use Rattle.std.specs.Prelude.{ℕ, List}
use Rattle.tpol_perform.specs.declared.new_run.NewRun.{NewRun}
use Rattle.tpol_prepare.specs.declared.scenario.Scenario.{Scenario}
use Rattle.tpol_perform.specs.Begin.{run_begun}
use Rattle.tpol_perform.specs.Performance.{PerformanceState}
use Rattle.tpol_perform.specs.Turns.{turned_to_end}

-- a run on the policy of this name begins, and run 1 goes to its end
abbrev pub performed_run : Scenario → List ℕ → NewRun → PerformanceState → PerformanceState
performed_run scenario policy run p = turned_to_end scenario 1 (run_begun scenario policy run p)

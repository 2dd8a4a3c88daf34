-- The events of a script, one after another.
use Rattle.std.specs.Prelude.{ℕ, List, [], ◌∷◌, Option, Some, None, Ok}
use Rattle.tpol_base.specs.declared.document.Document.{Document}
use Rattle.tpol_scene.specs.declared.script.ScriptEvent.{ScriptEvent}
use Rattle.tpol_scene.specs.declared.script.ScriptEvent.TheVariants.{Command, Begin, Turn, Time, Presence, Reset}
use Rattle.tpol_steps.specs.declared.answer.Answer.{Answer}
use Rattle.tpol_steps.specs.declared.answer.Verdict.TheVariants.{Done}
use Rattle.tpol_prepare.specs.declared.manner.Manner.{Manner}
use Rattle.tpol_prepare.specs.declared.scenario.Scenario.{Scenario}
use Rattle.tpol_prepare.specs.declared.scenario.StagedScene.{StagedScene}
use Rattle.tpol_perform.specs.Begin.{run_begun}
use Rattle.tpol_perform.specs.CommandsTold.{commanded}
use Rattle.tpol_perform.specs.NewRuns.{new_run}
use Rattle.tpol_perform.specs.Performance.{PerformanceState, presence_set, start_of, time_passed, was_reset}
use Rattle.tpol_prepare.specs.Scenario.{staged_step}
use Rattle.tpol_steps.specs.Steps.{Step, ◌>>=◌}
use Rattle.tpol_perform.specs.Turns.{turned_times, turned_to_end}

-- a run has its turns
abbrev pub turn_told : Scenario → ℕ → Option ℕ → PerformanceState → PerformanceState
turn_told scenario run None p = turned_to_end scenario run p
turn_told scenario run (Some times) p = turned_times scenario run times p

-- what an event leads to, and what is printed of it
abbrev pub happened : Scenario → ScriptEvent → PerformanceState → PerformanceState
happened scenario (Command client locality buffer) p = commanded scenario client locality buffer p
happened scenario (Begin run client locality policy place goal) p =
    run_begun scenario policy (new_run scenario.clients run client locality goal) p
happened scenario (Turn run times) p = turn_told scenario run times p
happened scenario (Time ms) p = time_passed ms p
happened scenario (Presence on) p = presence_set on p
happened scenario Reset p = was_reset p

-- all events, one after another
unfoldable pub all_happened : Scenario → List ScriptEvent → PerformanceState → PerformanceState
all_happened scenario [] p = p
all_happened scenario (event ∷ rest) p = all_happened scenario rest (happened scenario event p)

-- the scene carried out to its end
unfoldable pub performed : StagedScene → PerformanceState
performed staged = all_happened staged.scenario staged.script (start_of staged.setup)

abbrev pub performance_answer : StagedScene → Answer
performance_answer staged = record { lines = (performed staged).lines; verdict = Done }

-- a command that carries out a scene in this manner: the scene in the source with the policies of the shelf, and its
-- script
unfoldable pub perform_step : Manner → List ℕ → List Document → Step Answer
perform_step manner input all = staged_step manner input all >>= λ staged. Ok (performance_answer staged)

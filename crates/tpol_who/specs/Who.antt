-- The command `who`: a scene is carried out as `run` does it, and of each run that its script begins it is told, right
-- before it begins, which paths of its policy it can go and what blocks the others.
use Rattle.std.specs.Prelude.{ℕ, List, [], ◌∷◌, ◌++◌, Ok}
use Rattle.tpm_engine.specs.Sights.{sight_after}
use Rattle.tpol_base.specs.declared.document.Document.{Document}
use Rattle.tpol_lines.specs.Lines.{line_of}
use Rattle.tpol_perform.specs.declared.new_run.NewRun.{NewRun}
use Rattle.tpol_perform.specs.NewRuns.{new_run}
use Rattle.tpol_perform.specs.Performance.{PerformanceState, start_of}
use Rattle.tpol_perform.specs.Script.{happened}
use Rattle.tpol_prepare.specs.declared.manner.Manner.{Manner}
use Rattle.tpol_prepare.specs.declared.manner.Manner.TheVariants.{Run}
use Rattle.tpol_prepare.specs.declared.manner.Way.TheVariants.{Sighted}
use Rattle.tpol_prepare.specs.declared.scenario.Scenario.{Scenario}
use Rattle.tpol_prepare.specs.declared.scenario.StagedScene.{StagedScene}
use Rattle.tpol_prepare.specs.Scenario.{paths_named, staged_step}
use Rattle.tpol_scene.specs.declared.script.ScriptEvent.{ScriptEvent}
use Rattle.tpol_scene.specs.declared.script.ScriptEvent.TheVariants.{Command, Begin, Turn, Time, Presence, Reset}
use Rattle.tpol_steps.specs.declared.answer.Answer.{Answer}
use Rattle.tpol_steps.specs.declared.answer.Verdict.TheVariants.{Done}
use Rattle.tpol_steps.specs.Steps.{Step, ◌>>=◌}
use Rattle.tpol_who.specs.Lines.{begin_line, paths_told}

-- The line of a run of the policy of this name, and a line for each path of the policy, in order, with what the machine
-- shows before the run begins.
unfoldable pub begin_told : Scenario → List ℕ → NewRun → PerformanceState → List (List ℕ)
begin_told scenario policy run p =
    line_of (begin_line run policy) ∷ paths_told (sight_after p.setup p.past) run 1 (paths_named scenario policy)

-- what is told before an event happens
abbrev pub event_told : Scenario → ScriptEvent → PerformanceState → List (List ℕ)
event_told scenario (Command client locality buffer) p = []
event_told scenario (Begin run client locality policy place goal) p =
    begin_told scenario policy (new_run scenario.clients run client locality goal) p
event_told scenario (Turn run times) p = []
event_told scenario (Time ms) p = []
event_told scenario (Presence on) p = []
event_told scenario Reset p = []

-- what is told of events that happen one after another
unfoldable pub events_told : Scenario → List ScriptEvent → PerformanceState → List (List ℕ)
events_told scenario [] p = []
events_told scenario (event ∷ rest) p =
    event_told scenario event p ++ events_told scenario rest (happened scenario event p)

-- what is told of a scene
unfoldable pub scene_told : StagedScene → List (List ℕ)
scene_told staged = events_told staged.scenario staged.script (start_of staged.setup)

abbrev pub who_answer : StagedScene → Answer
who_answer staged = record { lines = scene_told staged; verdict = Done }

-- how the scene is carried out
abbrev pub as_run : Manner
as_run = Run Sighted

-- of the scene in the source, with the policies of the shelf
unfoldable pub who_step : List ℕ → List Document → Step Answer
who_step input all = staged_step as_run input all >>= λ staged. Ok (who_answer staged)

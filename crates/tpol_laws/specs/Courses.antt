-- The course of a run that a script begins, as a list of acts: its own turns, and the calls of all others.
use Rattle.std.specs.Prelude.{◌≡◌, ℕ, List, [], ◌∷◌, ◌++◌, Contains, drop, length, map, replicate, reverse, Option, Some, None, if◌then◌else◌}
use Rattle.tpm_engine.specs.Calls.{Call, call_of}
use Rattle.tpol_driver.specs.declared.end.End.{End}
use Rattle.tpol_driver.specs.Driving.{Drive, Ends, Over, Sends, sends}
use Rattle.tpol_lines.specs.Lines.{line_of}
use Rattle.tpol_lines.specs.Runs.{end_line}
use Rattle.tpol_perform.specs.Begin.{plan_along}
use Rattle.tpol_perform.specs.Performance.{PerformanceState}
use Rattle.tpol_perform.specs.Script.{happened}
use Rattle.tpol_perform.specs.Turns.{sent_now}
use Rattle.tpol_prepare.specs.declared.scenario.Scenario.{Scenario}
use Rattle.tpol_prepare.specs.declared.scenario.StagedScene.{StagedScene}
use Rattle.tpol_runs.specs.declared.sent.Sent.{Sent}
use Rattle.tpol_scene.specs.declared.script.ScriptEvent.{ScriptEvent}
use Rattle.tpol_tree.specs.declared.path.Path.{Path}
use Rattle.tpol_wire.specs.Commands.{spelling}
use Rattle.tpol_laws.specs.Acts.{Act, Course, Other, Run, Turn, after_acts, begun}
use Rattle.tpol_laws.specs.Told.{RunOf, before_begin, begins, behind_begin, behind_own, is_turn_of, tickets_at_begin, turns_given}

-- ---- acts

-- the calls that made the events between two states of a scene
abbrev pub calls_between : PerformanceState → PerformanceState → List Call
calls_between p q = drop (length p.past) (map call_of (reverse q.past))

-- what an event of the script is to the run of this number: so many of its turns, or calls of others
abbrev pub acts_of_event : Scenario → ℕ → ScriptEvent → PerformanceState → List Act
acts_of_event scenario number event p =
    if is_turn_of number event then replicate (turns_given number event) Turn else map Other (calls_between p (happened scenario event p))

unfoldable pub acts_of : Scenario → ℕ → List ScriptEvent → PerformanceState → List Act
acts_of scenario number [] p = []
acts_of scenario number (event ∷ rest) p =
    acts_of_event scenario number event p ++ acts_of scenario number rest (happened scenario event p)

-- ---- the run of a script

-- along a path, as a run among others
abbrev pub run_along : (staged : StagedScene) → RunOf staged.script → Path → Run
run_along staged run path = record {
  setup = staged.setup;
  client = run.client;
  locality = run.locality;
  plan = plan_along staged.scenario (tickets_at_begin staged run) path (begins staged run);
}

abbrev pub acts_for : (staged : StagedScene) → RunOf staged.script → List Act
acts_for staged run = acts_of staged.scenario run.number run.own (behind_begin staged run)

-- at its begin, and behind the events that follow it
abbrev pub course_at_begin : (staged : StagedScene) → RunOf staged.script → Course
course_at_begin staged run = begun (before_begin staged run).past

abbrev pub course_of : (staged : StagedScene) → RunOf staged.script → Path → Course
course_of staged run path = after_acts (run_along staged run path) (acts_for staged run) (course_at_begin staged run)

-- what it sends next, by what its driver does
abbrev pub sent_as : Run → Drive → Option Sent
sent_as run (Sends command) = Some (record { client = run.client; locality = run.locality; buffer = spelling command })
sent_as run (Ends end) = None

-- Behind the events that follow its begin on a path, the journal is that of its course, what it sends next is what its
-- driver sends there, and the end that its course has come to is told.
pub record HasCourse (staged : StagedScene) (run : RunOf staged.script) (path : Path) : Type 0 where
  pub past : (behind_own staged run).past ≡ (course_of staged run path).past
  pub next : sent_now run.number (behind_own staged run)
      ≡ sent_as (run_along staged run path) (sends (run_along staged run path).plan (course_of staged run path).standing)
  pub ended : (end : End) → (course_of staged run path).standing ≡ Over end
      → Contains (behind_own staged run).lines (line_of (end_line run.number end))

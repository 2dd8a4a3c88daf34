-- Runs of a scene's script, and what the report tells of them.
use Rattle.std.specs.Prelude.{◌≡◌, ◌≢◌, ◌≤◌, ◌⊎◌, ◌+◌, ◌-◌, ⊤, ℕ, ◌==◌, Bool, true, false, List, [], ◌∷◌, ◌++◌, Contains, slice_get, Option, Some, None, replicate, if◌then◌else◌}
use Rattle.tpol_choose.specs.declared.block.Block.{Block}
use Rattle.tpol_choose.specs.Blocks.{chosen_path, first_block}
use Rattle.tpol_driver.specs.declared.end.End.TheVariants.{Served}
use Rattle.tpol_driver.specs.declared.tickets.HeldTicket.{HeldTicket}
use Rattle.tpol_goal.specs.declared.goal.Goal.{Goal}
use Rattle.tpol_json.specs.declared.place.Place.{Place}
use Rattle.tpol_lines.specs.BlockLine.{block_line}
use Rattle.tpol_lines.specs.Lines.{line_of}
use Rattle.tpol_lines.specs.Runs.{chosen_line, end_line, nobranch_line, over_line}
use Rattle.tpol_name.specs.declared.sight.Sight.{Sight}
use Rattle.tpol_perform.specs.declared.new_run.NewRun.{NewRun}
use Rattle.tpol_perform.specs.NewRuns.{new_run}
use Rattle.tpol_perform.specs.Performance.{PerformanceState, start_of}
use Rattle.tpol_perform.specs.Script.{all_happened, happened}
use Rattle.tpol_perform.specs.Tickets.{tickets_given}
use Rattle.tpol_prepare.specs.declared.manner.Way.TheVariants.{Blind}
use Rattle.tpol_prepare.specs.declared.scenario.Scenario.{Scenario}
use Rattle.tpol_prepare.specs.declared.scenario.StagedScene.{StagedScene}
use Rattle.tpol_prepare.specs.Manner.{way_of}
use Rattle.tpol_prepare.specs.Scenario.{paths_named}
use Rattle.tpol_runs.specs.Runs.{run_at}
use Rattle.tpol_scene.specs.declared.script.ScriptEvent.{ScriptEvent}
use Rattle.tpol_scene.specs.declared.script.ScriptEvent.TheVariants as events
use Rattle.tpol_tree.specs.declared.path.Path.{Path}
use Rattle.tpm_engine.specs.Sights.{sight_after}
use Rattle.tpm_engine.specs.Views.{world_at}
use Rattle.tpol_laws.specs.GoalBytes.{goal_bytes}
use Rattle.tpol_laws.specs.PathCommands.{commands_along}

-- ---- a run of the script of a scene

-- its runs see the machine
abbrev pub IsSighted : StagedScene → Type 0
IsSighted staged = way_of staged.scenario.manner ≢ Blind

-- the events before the run's begin, its begin, some events behind that, and the others
pub record RunOf (script : List ScriptEvent) : Type 0 where
  pub before : List ScriptEvent
  pub number : ℕ
  pub client : ℕ
  pub locality : ℕ
  pub policy : List ℕ
  pub place : Place
  pub goal : Goal
  pub own : List ScriptEvent
  pub after : List ScriptEvent
  pub is : script ≡ before ++ events.Begin number client locality policy place goal ∷ (own ++ after)

-- how far the scene is before the begin, behind it, and behind the events that follow it
abbrev pub before_begin : (staged : StagedScene) → RunOf staged.script → PerformanceState
before_begin staged run = all_happened staged.scenario run.before (start_of staged.setup)

abbrev pub behind_begin : (staged : StagedScene) → RunOf staged.script → PerformanceState
behind_begin staged run =
    happened staged.scenario (events.Begin run.number run.client run.locality run.policy run.place run.goal) (before_begin staged run)

abbrev pub behind_own : (staged : StagedScene) → RunOf staged.script → PerformanceState
behind_own staged run = all_happened staged.scenario run.own (behind_begin staged run)

-- what begins, the paths of its policy, and what the machine shows then
abbrev pub begins : (staged : StagedScene) → RunOf staged.script → NewRun
begins staged run = new_run staged.scenario.clients run.number run.client run.locality run.goal

abbrev pub paths_for : (staged : StagedScene) → RunOf staged.script → List Path
paths_for staged run = paths_named staged.scenario run.policy

abbrev pub sight_at_begin : (staged : StagedScene) → RunOf staged.script → Sight
sight_at_begin staged run = sight_after (before_begin staged run).setup (before_begin staged run).past

-- the tickets that it is given: where runs hold tickets, those that its client can use then
abbrev pub tickets_at_begin : (staged : StagedScene) → RunOf staged.script → List HeldTicket
tickets_at_begin staged run =
    tickets_given (way_of staged.scenario.manner) run.client (sight_at_begin staged run) (before_begin staged run).kept

-- the position, from 1, of the first path that nothing blocks
abbrev pub chosen_for : (staged : StagedScene) → RunOf staged.script → Option ℕ
chosen_for staged run =
    chosen_path (paths_for staged run) (sight_at_begin staged run) (begins staged run).grants run.goal run.locality

-- ---- only its turns make events, and it has turns enough

abbrev pub is_turn_of : ℕ → ScriptEvent → Bool
is_turn_of number (events.Turn run times) = run == number
is_turn_of number event = false

-- each event is a turn of this run, or makes no event of the machine
unfoldable pub IsAlone : Scenario → ℕ → List ScriptEvent → PerformanceState → Type 0
IsAlone scenario number [] p = ⊤
IsAlone scenario number (event ∷ rest) p =
    ((is_turn_of number event ≡ true) ⊎ ((happened scenario event p).past ≡ p.past))
    × IsAlone scenario number rest (happened scenario event p)

-- how many turns it has; those to its end are as many as any run can need
abbrev pub times_given : Option ℕ → ℕ
times_given None = 65665
times_given (Some times) = times

abbrev pub turns_given : ℕ → ScriptEvent → ℕ
turns_given number (events.Turn run times) = if run == number then times_given times else 0
turns_given number event = 0

abbrev pub turns_for : ℕ → List ScriptEvent → ℕ
turns_for number [] = 0
turns_for number (event ∷ rest) = turns_given number event + turns_for number rest

-- ---- what is told

-- the lines tell that the run is served
abbrev pub IsToldServed : ℕ → List (List ℕ) → Type 0
IsToldServed number lines = (bytes : List ℕ) × Contains lines (line_of (end_line number (Served bytes)))

-- the line of what stands in the way of each of these paths, from this position on; something does in each
unfoldable pub AreBlocksOf : Sight → NewRun → ℕ → List Path → List (List ℕ) → Type 0
AreBlocksOf sight run position [] lines = lines ≡ []
AreBlocksOf sight run position (path ∷ rest) lines =
    (block : Block) × (later : List (List ℕ)) × (first_block path sight run.grants run.goal run.locality ≡ Some block)
    × (lines ≡ line_of (block_line position path.steps block) ∷ later) × AreBlocksOf sight run (position + 1) rest later

-- The run sees the machine, and begins on the path at this position, which is the first that nothing blocks: its line
-- is printed.
pub record BeginsOn (staged : StagedScene) (run : RunOf staged.script) (position : ℕ) : Type 0 where
  pub sees : IsSighted staged
  pub chosen : chosen_for staged run ≡ Some position
  pub path : Path
  pub listed : slice_get (paths_for staged run) (position - 1) ≡ Some path
  pub opens : first_block path (sight_at_begin staged run) (begins staged run).grants run.goal run.locality ≡ None
  pub printed : (behind_begin staged run).lines ≡ (before_begin staged run).lines ++ line_of (chosen_line run.number position path.steps) ∷ []

-- The run begins on no path, and is over: it is printed what stands in the way of each.
pub record BeginsNowhere (staged : StagedScene) (run : RunOf staged.script) : Type 0 where
  pub blocks : List (List ℕ)
  pub are : AreBlocksOf (sight_at_begin staged run) (begins staged run) 1 (paths_for staged run) blocks
  pub printed : (behind_begin staged run).lines ≡ (before_begin staged run).lines ++ line_of (nobranch_line run.number) ∷ blocks
  pub over : run_at (behind_begin staged run).runs run.number ≡ None

-- it has a turn for each command of the path that it begins on
abbrev pub HasTurns : (staged : StagedScene) → RunOf staged.script → Type 0
HasTurns staged run =
    (position : ℕ) (on : BeginsOn staged run position) → commands_along on.path ≤ turns_for run.number run.own

-- what its goal gives on the machine as it is at the begin
abbrev pub bytes_for : (staged : StagedScene) → RunOf staged.script → List ℕ
bytes_for staged run = goal_bytes (world_at (before_begin staged run).setup (before_begin staged run).past) run.goal

-- The begin and the events that follow it print the path, and behind that that the run is served, with what its goal
-- gives; it is over.
pub record IsServedOn (staged : StagedScene) (run : RunOf staged.script) (position : ℕ) (path : Path) : Type 0 where
  pub added : List (List ℕ)
  pub printed : (behind_own staged run).lines ≡ (before_begin staged run).lines ++ line_of (chosen_line run.number position path.steps) ∷ added
  pub served : Contains added (line_of (end_line run.number (Served (bytes_for staged run))))
  pub over : run_at (behind_own staged run).runs run.number ≡ None

-- the lines of so many turns of a run that is over; turns to its end print one
abbrev pub lines_when_over : Option ℕ → ℕ
lines_when_over None = 1
lines_when_over (Some times) = times

-- the same state, and behind its lines so many that tell that the run is over
abbrev pub with_over : ℕ → Option ℕ → PerformanceState → PerformanceState
with_over number times p = record p { lines = p.lines ++ replicate (lines_when_over times) (line_of (over_line number)) }

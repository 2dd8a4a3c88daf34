-- What the lines of `who` tell of each run that a script begins, and which path the run begins on.
use Rattle.std.specs.Prelude.{◌≡◌, ◌↔◌, ℕ, ◌+◌, Bool, List, [], ◌∷◌, ◌++◌, codes, length, nat_eq, slice_get, Option, Some, None, Ok, if◌then◌else◌}
use Rattle.std.specs.List.{starts_with}
use Rattle.tpm_engine.specs.Sights.{sight_after}
use Rattle.tpol_base.specs.declared.document.Document.{Document}
use Rattle.tpol_choose.specs.declared.block.Block.{Block}
use Rattle.tpol_choose.specs.Blocks.{chosen_path}
use Rattle.tpol_goal.specs.declared.goal.Goal.{Goal}
use Rattle.tpol_json.specs.declared.place.Place.{Place}
use Rattle.tpol_lines.specs.BlockLine.{block_line}
use Rattle.tpol_lines.specs.Lines.{line_of}
use Rattle.tpol_name.specs.declared.sight.Sight.{Sight}
use Rattle.tpol_perform.specs.declared.new_run.NewRun.{NewRun}
use Rattle.tpol_perform.specs.Begin.{begun_at}
use Rattle.tpol_perform.specs.NewRuns.{new_run}
use Rattle.tpol_perform.specs.Performance.{PerformanceState, start_of}
use Rattle.tpol_perform.specs.Script.{all_happened, happened}
use Rattle.tpol_prepare.specs.declared.scenario.StagedScene.{StagedScene}
use Rattle.tpol_prepare.specs.Scenario.{paths_named, staged_step}
use Rattle.tpol_scene.specs.declared.script.ScriptEvent.{ScriptEvent}
use Rattle.tpol_scene.specs.declared.script.ScriptEvent.TheVariants.{Begin}
use Rattle.tpol_tree.specs.declared.path.Path.{Path}
use Rattle.tpol_who.specs.Lines.{begin_line, block_for, can_line}
use Rattle.tpol_who.specs.Who.{as_run}

-- ---- a run of the script of a scene

-- the events before its begin, its begin, and the events behind
pub record BeginIn (script : List ScriptEvent) : Type 0 where
  pub before : List ScriptEvent
  pub number : ℕ
  pub client : ℕ
  pub locality : ℕ
  pub policy : List ℕ
  pub place : Place
  pub goal : Goal
  pub after : List ScriptEvent
  pub is : script ≡ before ++ Begin number client locality policy place goal ∷ after

-- how far the scene is when it begins
abbrev pub state_at : (staged : StagedScene) → BeginIn staged.script → PerformanceState
state_at staged begin = all_happened staged.scenario begin.before (start_of staged.setup)

-- what begins, with what its client may use; the paths of its policy; and what the machine shows then
abbrev pub run_of : (staged : StagedScene) → BeginIn staged.script → NewRun
run_of staged begin = new_run staged.scenario.clients begin.number begin.client begin.locality begin.goal

abbrev pub paths_for : (staged : StagedScene) → BeginIn staged.script → List Path
paths_for staged begin = paths_named staged.scenario begin.policy

abbrev pub sight_at : (staged : StagedScene) → BeginIn staged.script → Sight
sight_at staged begin = sight_after (state_at staged begin).setup (state_at staged begin).past

-- what stands in its way on a path
abbrev pub block_on_path : (staged : StagedScene) → BeginIn staged.script → Path → Option Block
block_on_path staged begin path = block_for (sight_at staged begin) (run_of staged begin) path

-- the begin, by the definition that `run` is carried out by
abbrev pub behind : (staged : StagedScene) → BeginIn staged.script → PerformanceState
behind staged begin =
    happened staged.scenario (Begin begin.number begin.client begin.locality begin.policy begin.place begin.goal) (state_at staged begin)

-- ---- what is told of it

-- the position of the first of these lines that begins with `can`, where the first line has this one
abbrev pub is_can : List ℕ → Bool
is_can line = starts_with nat_eq line (codes "can ")

unfoldable pub first_can : ℕ → List (List ℕ) → Option ℕ
first_can position [] = None
first_can position (line ∷ rest) = if is_can line then Some position else first_can (position + 1) rest

-- Lines tell of a run: one line of the run itself, and behind it these, one for each path of its policy, in order.
pub record IsBeginTold (staged : StagedScene) (begin : BeginIn staged.script) (lines : List (List ℕ)) : Type 0 where
  pub front : List (List ℕ)
  pub each : List (List ℕ)
  pub back : List (List ℕ)
  pub stand : lines ≡ front ++ line_of (begin_line (run_of staged begin) begin.policy) ∷ (each ++ back)
  pub counted : length each ≡ length (paths_for staged begin)
  -- a path has the line `can` exactly where nothing stands in its way, and else the line of what does
  pub can : (index : ℕ) (path : Path) → slice_get (paths_for staged begin) index ≡ Some path
      → (slice_get each index ≡ Some (line_of (can_line (index + 1) path.steps))) ↔ (block_on_path staged begin path ≡ None)
  pub blocked : (index : ℕ) (path : Path) (block : Block) → slice_get (paths_for staged begin) index ≡ Some path
      → block_on_path staged begin path ≡ Some block → slice_get each index ≡ Some (line_of (block_line (index + 1) path.steps block))
  -- the first `can` is that of the path that is chosen for the run, and there is none exactly where none is chosen
  pub first : first_can 1 each ≡ chosen_path (paths_for staged begin) (sight_at staged begin) (run_of staged begin).grants begin.goal begin.locality
  -- the run begins on that path, or on none
  pub begins : behind staged begin
      ≡ begun_at staged.scenario (sight_at staged begin) (paths_for staged begin) (run_of staged begin) (first_can 1 each) (state_at staged begin)

-- lines tell of each run that the script of a scene begins
abbrev pub AreBeginsTold : StagedScene → List (List ℕ) → Type 0
AreBeginsTold staged lines = (begin : BeginIn staged.script) → IsBeginTold staged begin lines

-- the same of the scene that bytes are the document of, where it can be carried out with the policies of a shelf
abbrev pub IsToldWho : List ℕ → List Document → List (List ℕ) → Type 0
IsToldWho input all lines = (staged : StagedScene) → staged_step as_run input all ≡ Ok staged → AreBeginsTold staged lines

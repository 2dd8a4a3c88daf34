-- Blind runs of a scene's script, and what the report tells of them.
use Rattle.std.specs.Prelude.{◌≡◌, ◌+◌, ◌-◌, ℕ, List, [], ◌∷◌, ◌++◌, slice_get, Option, Some, None}
use Rattle.tpol_driver.specs.declared.blind_end.Tried.TheVariants.{Skipped}
use Rattle.tpol_driver.specs.declared.blind_plan.BlindPlan.{BlindPlan}
use Rattle.tpol_driver.specs.declared.end.End.TheVariants.{Served}
use Rattle.tpol_lines.specs.Lines.{line_of}
use Rattle.tpol_lines.specs.Runs.{blind_line, chosen_line, end_line, nobranch_line}
use Rattle.tpol_lines.specs.TriedLine.{tried_line}
use Rattle.tpol_perform.specs.Blind.{blind_plan}
use Rattle.tpol_prepare.specs.declared.manner.Way.TheVariants.{Blind}
use Rattle.tpol_prepare.specs.declared.scenario.StagedScene.{StagedScene}
use Rattle.tpol_prepare.specs.Manner.{way_of}
use Rattle.tpol_runs.specs.Runs.{run_at}
use Rattle.tpol_tree.specs.declared.path.Path.{Path}
use Rattle.tpol_laws.specs.BlindRuns.{BlindRun, HasBlindChance}
use Rattle.tpol_laws.specs.Told.{RunOf, before_begin, begins, behind_begin, behind_own, bytes_for, paths_for, turns_for}

-- its runs see nothing of the machine
abbrev pub IsBlindScene : StagedScene → Type 0
IsBlindScene staged = way_of staged.scenario.manner ≡ Blind

-- what a run is to do, on the paths of its policy
abbrev pub blind_plan_for : (staged : StagedScene) → RunOf staged.script → BlindPlan
blind_plan_for staged run = blind_plan staged.scenario (paths_for staged run) (begins staged run)

-- the run as the law of blind runs speaks of it
abbrev pub blind_run_of : (staged : StagedScene) → RunOf staged.script → BlindRun
blind_run_of staged run =
    record { setup = staged.setup; client = run.client; locality = run.locality; plan = blind_plan_for staged run }

-- among its own turns is one in which it sends an HMAC that is right by chance
abbrev pub HasChanceIn : (staged : StagedScene) → RunOf staged.script → Type 0
HasChanceIn staged run =
    HasBlindChance (blind_run_of staged run) (turns_for run.number run.own) (before_begin staged run).past

-- the line of each of these paths, from this position on, that it was not tried
abbrev pub skipped_lines : ℕ → List Path → List (List ℕ)
skipped_lines position [] = []
skipped_lines position (path ∷ rest) =
    line_of (tried_line position path.steps Skipped) ∷ skipped_lines (position + 1) rest

-- The begin prints that the run is blind. Where no path can be tried, it prints that too, and each path as one that was
-- not tried, and the run is over.
abbrev pub BeginsBlindly : (staged : StagedScene) → RunOf staged.script → Option ℕ → Type 0
BeginsBlindly staged run None =
    ((behind_begin staged run).lines
    ≡ (before_begin staged run).lines
    ++ line_of (blind_line run.number) ∷ line_of (nobranch_line run.number) ∷ skipped_lines 1 (paths_for staged run))
    × (run_at (behind_begin staged run).runs run.number ≡ None)
BeginsBlindly staged run (Some position) =
    (behind_begin staged run).lines ≡ (before_begin staged run).lines ++ line_of (blind_line run.number) ∷ []

-- The events that follow the begin print the path at this position, and right behind it that the run is served, with
-- what its goal gives; it is over.
pub record IsServedBlindly (staged : StagedScene) (run : RunOf staged.script) (position : ℕ) : Type 0 where
  pub path : Path
  pub listed : slice_get (paths_for staged run) (position - 1) ≡ Some path
  pub before : List (List ℕ)
  pub after : List (List ℕ)
  pub printed : (behind_own staged run).lines
      ≡ (behind_begin staged run).lines
      ++ (before
      ++ line_of (chosen_line run.number position path.steps)
      ∷ line_of (end_line run.number (Served (bytes_for staged run)))
      ∷ after)
  pub over : run_at (behind_own staged run).runs run.number ≡ None

-- What the lines of a scene tell of its journal and of the runs of its script.
use Rattle.std.specs.Prelude.{◌≡◌, ◌↔◌, ◌++◌, ℕ, true, List, Contains, Some, None, Ok}
use Rattle.tpol_base.specs.declared.document.Document.{Document}
use Rattle.tpol_driver.specs.declared.end.End.TheVariants.{Served}
use Rattle.tpol_lines.specs.Lines.{line_of}
use Rattle.tpol_lines.specs.Runs.{end_line}
use Rattle.tpol_perform.specs.Explained.{IsExplained}
use Rattle.tpol_perform.specs.Script.{performed}
use Rattle.tpol_prepare.specs.declared.manner.Manner.{Manner}
use Rattle.tpol_prepare.specs.declared.scenario.StagedScene.{StagedScene}
use Rattle.tpol_prepare.specs.Manner.{explains}
use Rattle.tpol_prepare.specs.Scenario.{staged_step}
use Rattle.tpol_laws.specs.Journal.{IsJournal}
use Rattle.tpol_laws.specs.Told.{BeginsNowhere, BeginsOn, HasTurns, IsAlone, IsSighted, IsToldServed, RunOf, behind_begin, bytes_for, chosen_for}

-- What lines tell of a run of the script.
pub record IsRunTold (staged : StagedScene) (run : RunOf staged.script) (lines : List (List ℕ)) : Type 0 where
  -- what is printed up to its begin, and of that, is a first part of them
  pub later : List (List ℕ)
  pub front : lines ≡ (behind_begin staged run).lines ++ later
  -- where it sees the machine, it begins on the first path that nothing blocks, whose line is printed, or on none: then
  -- it is printed what blocks each path
  pub begins_on : IsSighted staged → (position : ℕ) → chosen_for staged run ≡ Some position → BeginsOn staged run position
  pub begins_nowhere : IsSighted staged → chosen_for staged run ≡ None → BeginsNowhere staged run
  -- Where it does so, and only its own turns make events behind its begin, and there is one for each command of its
  -- path, it is told that it is served exactly where it begins on a path, and with what its goal gives on the machine
  -- as it was then.
  pub exactly : IsSighted staged → IsAlone staged.scenario run.number run.own (behind_begin staged run) → HasTurns staged run
      → IsToldServed run.number lines ↔ ((position : ℕ) × BeginsOn staged run position)
  pub served_with : IsAlone staged.scenario run.number run.own (behind_begin staged run) → HasTurns staged run
      → (position : ℕ) → BeginsOn staged run position → Contains lines (line_of (end_line run.number (Served (bytes_for staged run))))

-- Lines tell a scene: its journal, each event of which has its line, and each command of which that asks for a policy
-- session is decided; and each run. Where openings are told, they explain it: behind the line of each command that was
-- served through a policy session, on an entity whose policy the scene names, stands the line of what opened it.
pub record IsTold (staged : StagedScene) (lines : List (List ℕ)) : Type 0 where
  pub journal : IsJournal staged.setup (performed staged).past lines
  pub runs : (run : RunOf staged.script) → IsRunTold staged run lines
  pub explained : explains staged.scenario.manner ≡ true → IsExplained staged lines

-- if the bytes are the document of a scene that can be carried out with the policies of the shelf, lines tell it
abbrev pub IsToldScene : Manner → List ℕ → List Document → List (List ℕ) → Type 0
IsToldScene manner input all lines = (staged : StagedScene) → staged_step manner input all ≡ Ok staged → IsTold staged lines

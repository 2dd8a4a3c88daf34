-- What `who` tells of each run that a script begins.
use Rattle.std.proofs.Common.{◌≡◌, ◌∙◌, ap, sym, subst, ℕ, List, ◌++◌, Ok}
use Rattle.tpol_base.specs.declared.document.Document.{Document}
use Rattle.tpol_perform.specs.Begin.{begun_at}
use Rattle.tpol_perform.specs.Performance.{start_of}
use Rattle.tpol_prepare.specs.declared.manner.Way.TheVariants.{Sighted}
use Rattle.tpol_prepare.specs.declared.scenario.StagedScene.{StagedScene}
use Rattle.tpol_prepare.specs.Manner.{way_of}
use Rattle.tpol_prepare.specs.Scenario.{staged_step}
use Rattle.tpol_scene.specs.declared.script.ScriptEvent.{ScriptEvent}
use Rattle.tpol_scene.specs.declared.script.ScriptEvent.TheVariants.{Begin}
use Rattle.std.specs.Prelude.{Option}
use Rattle.tpol_who.specs.Begins.{AreBeginsTold, BeginIn, IsBeginTold, IsToldWho, behind, paths_for, run_of, sight_at, state_at}
use Rattle.tpol_who.specs.Lines.{paths_told}
use Rattle.tpol_who.specs.Who.{as_run, begin_told, event_told, events_told, scene_told}
use Rattle.tpol_who.proofs.Begun.{begins_on, blocked_at, can_exactly, counted, first_is_chosen}
use Rattle.tpol_who.proofs.Manner.{manner_kept}
use Rattle.tpol_who.proofs.Script.{told_between}

module _ (staged : StagedScene) (begin : BeginIn staged.script) where
  abbrev the_begin : ScriptEvent
  the_begin = Begin begin.number begin.client begin.locality begin.policy begin.place begin.goal

  abbrev each_told : List (List ℕ)
  each_told = paths_told (sight_at staged begin) (run_of staged begin) 1 (paths_for staged begin)

  stand : scene_told staged
      ≡ events_told staged.scenario begin.before (start_of staged.setup)
      ++ (event_told staged.scenario the_begin (state_at staged begin) ++ events_told staged.scenario begin.after (behind staged begin))
  unfolding scene_told
  stand =
      ap (λ script. events_told staged.scenario script (start_of staged.setup)) begin.is
      ∙ told_between staged.scenario begin.before the_begin begin.after (start_of staged.setup)

  pub begin_is_told : way_of staged.scenario.manner ≡ Sighted → IsBeginTold staged begin (scene_told staged)
  unfolding begin_told
  begin_is_told sees =
      let sight = sight_at staged begin in
      let run = run_of staged begin in
      let paths = paths_for staged begin in
      let first = first_is_chosen sight run paths in
      record {
        front = events_told staged.scenario begin.before (start_of staged.setup);
        each = each_told;
        back = events_told staged.scenario begin.after (behind staged begin);
        stand = stand;
        counted = counted sight run 1 paths;
        can = λ index path there. can_exactly sight run paths index path there;
        blocked = λ index path block there is. blocked_at sight run paths index path block there is;
        first = first;
        begins = begins_on staged.scenario begin.policy run (state_at staged begin) sees
            ∙ ap (λ (chosen : Option ℕ). begun_at staged.scenario sight paths run chosen (state_at staged begin)) (sym first);
      }

pub begins_are_told : (staged : StagedScene) → way_of staged.scenario.manner ≡ Sighted → AreBeginsTold staged (scene_told staged)
begins_are_told staged sees = λ begin. begin_is_told staged begin sees

-- of the scene that bytes and the documents of a shelf give
pub scene_is_told : (input : List ℕ) (all : List Document) (lines : List (List ℕ))
    → ((staged : StagedScene) → staged_step as_run input all ≡ Ok staged → lines ≡ scene_told staged) → IsToldWho input all lines
scene_is_told input all lines same staged e =
    subst (AreBeginsTold staged) (sym (same staged e)) (begins_are_told staged (ap way_of (manner_kept as_run input all staged e)))

-- The lines of a scene that is staged tell it.
use Rattle.std.proofs.Common.{◌≡◌, ◌∙◌, ◌-◌, ℕ, true, slice_get, List, ◌++◌, Ok, Some, None, ap, sym, subst}
use Rattle.std.specs.Prelude.{Option, find, length}
use Rattle.std.proofs.Math.Seq.{take-length}
use Rattle.tpm_engine.specs.declared.event.Event.{Event}
use Rattle.tpm_engine.specs.Sights.{sight_after}
use Rattle.tpm_engine.specs.Views.{facts_of}
use Rattle.tpol_base.specs.declared.document.Document.{Document}
use Rattle.tpol_choose.specs.Blocks.{first_block}
use Rattle.tpol_digest.specs.Digest.{digest_of_moves, policy_digest}
use Rattle.tpol_digest.specs.Paths.{paths_of}
use Rattle.tpol_digest.proofs.Meeting.{paths_of_meet}
use Rattle.tpol_perform.specs.Explained.{IsExplained}
use Rattle.tpol_perform.specs.Performance.{PerformanceState}
use Rattle.tpol_perform.specs.Script.{performed}
use Rattle.tpol_perform.proofs.ExplainedErased.{openable}
use Rattle.tpol_perform.proofs.Told.{performed_explains}
use Rattle.tpol_prepare.specs.declared.manner.Manner.{Manner}
use Rattle.tpol_prepare.specs.declared.scenario.StagedScene.{StagedScene}
use Rattle.tpol_prepare.specs.Manner.{explains}
use Rattle.tpol_prepare.specs.Scenario.{is_document, paths_in, paths_named, staged_step}
use Rattle.tpol_prepare.specs.Staged.{IsStaged}
use Rattle.tpol_steps.specs.declared.filled.FilledDocument.{FilledDocument}
use Rattle.tpol_tree.specs.Facts.{moves_of as moves_of_facts}
use Rattle.tpol_tree.specs.declared.path.Path.{Path}
use Rattle.tpol_laws.specs.Courses.{acts_for, course_at_begin, course_of, run_along}
use Rattle.tpol_laws.specs.Others.{AreOthersApart, AreSecretsOnWritten, place_of}
use Rattle.tpol_laws.specs.Printed.{IsRunTold, IsTold, IsToldScene}
use Rattle.tpol_laws.specs.Runs.{IsBegun, IsRun}
use Rattle.tpol_laws.specs.Told.{BeginsOn, RunOf, before_begin, begins, behind_begin, behind_own}
use Rattle.tpol_laws.proofs.Begun.{begins-nowhere, begins-on, begun-run-is, setup-before}
use Rattle.tpol_laws.proofs.Complete.{open-complete}
use Rattle.tpol_laws.proofs.Courses.{has-course}
use Rattle.tpol_laws.proofs.Decided.{scene-journal}
use Rattle.tpol_laws.proofs.Finds.{all-at}
use Rattle.tpol_laws.proofs.Goes.{goes-all}
use Rattle.tpol_laws.proofs.Staged.{step-staged}
use Rattle.tpol_laws.proofs.Step.{path-digest}
use Rattle.tpol_laws.proofs.Told.{performed-is, served-exactly, served-with}

-- ---- what is printed

pub runs-told : (staged : StagedScene) → IsStaged staged → (run : RunOf staged.script) → IsRunTold staged run (performed staged).lines
runs-told staged is run =
    let goes = goes-all staged.scenario (run.own ++ run.after) (behind_begin staged run) in
    record {
      later = goes.added;
      front = ap (λ (p : PerformanceState). p.lines) (performed-is staged run) ∙ goes.lines;
      begins_on = λ sees position chosen. begins-on staged run is sees position chosen;
      begins_nowhere = λ sees chosen. begins-nowhere staged run is sees chosen;
      exactly = λ sees alone turns. served-exactly staged run is sees alone turns;
      served_with = λ alone turns position on. served-with staged run is alone turns position on;
    }

-- where openings are told
scene-explained : (staged : StagedScene) → IsStaged staged → explains staged.scenario.manner ≡ true → IsExplained staged (performed staged).lines
scene-explained staged is tells =
    performed_explains staged tells is.scenario.policies (openable staged.setup staged.scenario is.scenario is.entities is.approvals) is.setup.pcrs

-- of a scene that bytes and the documents of a shelf give
pub scene-told : (manner : Manner) (input : List ℕ) (all : List Document) (lines : List (List ℕ))
    → ((staged : StagedScene) → staged_step manner input all ≡ Ok staged → lines ≡ (performed staged).lines) → IsToldScene manner input all lines
scene-told manner input all lines same staged e =
    let is = step-staged manner input all staged e in
    subst (IsTold staged) (sym (same staged e)) (record { journal = scene-journal staged; runs = runs-told staged is; explained = scene-explained staged is })

-- ---- what the laws of single runs ask of the run of a script

module _ (staged : StagedScene) (run : RunOf staged.script) (is : IsStaged staged) (position : ℕ) (on : BeginsOn staged run position) where
  pub script-begun : IsBegun (run_along staged run on.path)
  script-begun = begun-run-is staged run is on.path (position - 1) on.listed

  pub script-opens : first_block on.path (sight_after staged.setup (before_begin staged run).past) (begins staged run).grants run.goal run.locality ≡ None
  script-opens = subst (λ setup. first_block on.path (sight_after setup (before_begin staged run).past) (begins staged run).grants run.goal run.locality ≡ None) (setup-before staged run is) on.opens

  pub script-run : IsRun (run_along staged run on.path)
  script-run =
      let begun = script-begun in
      record {
        setup = begun.setup;
        directory = begun.directory;
        tickets = begun.tickets;
        grants = begun.grants;
        moves = begun.moves;
        complete = open-complete staged.setup (before_begin staged run).past (run_along staged run on.path).plan run.locality begun.setup begun.directory script-opens;
      }

  -- each path of a document meets its digest
  meets : (document : FilledDocument) → find (is_document run.policy) staged.scenario.begun ≡ Some document → digest_of_moves on.path.moves ≡ policy_digest document.closed
  unfolding paths_named
  meets document found =
      all-at (λ (p : Path). digest_of_moves p.moves ≡ policy_digest document.closed) (paths_of document.closed staged.scenario.approvals) (position - 1) on.path
      (paths_of_meet document.closed staged.scenario.approvals)
      (subst (λ (o : Option FilledDocument). slice_get (paths_in staged.scenario.approvals o) (position - 1) ≡ Some on.path) found on.listed)

  pub script-digest : (session : ℕ) (document : FilledDocument) → find (is_document run.policy) staged.scenario.begun ≡ Some document
      → AreOthersApart (run_along staged run on.path) (acts_for staged run) (course_at_begin staged run)
      → AreSecretsOnWritten (run_along staged run on.path) (acts_for staged run) (course_at_begin staged run)
      → place_of (course_of staged run on.path).standing ≡ Some (session, length on.path.moves)
      → digest_of_moves (moves_of_facts (facts_of staged.setup (behind_own staged run).past session)) ≡ policy_digest document.closed
  script-digest session document found apart asks stands =
      ap (λ (past : List Event). digest_of_moves (moves_of_facts (facts_of staged.setup past session))) (has-course staged run is position on).past
      ∙ path-digest (run_along staged run on.path) (before_begin staged run).past (acts_for staged run) session (length on.path.moves) script-run apart asks stands
      ∙ ap digest_of_moves (take-length on.path.moves)
      ∙ meets document found

-- The journal of a scene is one that a machine makes, each of its commands is decided, and each event is told.
use Rattle.std.proofs.Common.{◌≡◌, ℕ, ◌↔◌, List, [], ◌∷◌, ◌++◌, sym, subst, codes}
use Rattle.tpm_engine.specs.declared.event.Event.{Event}
use Rattle.tpm_engine.specs.declared.event.Event.TheVariants as events
use Rattle.tpm_engine.specs.Events.{Answered}
use Rattle.tpm_engine.specs.Legal.{IsAnswered, IsLegal}
use Rattle.tpm_engine.specs.Uses.{IsNotDeniedByCheck, IsServed, Passes}
use Rattle.tpm_engine.proofs.Headline.{authorizes, serves}
use Rattle.tpm_engine.proofs.Journals.{calls-legal}
use Rattle.tpm_rules.specs.declared.outcome.Outcome.TheVariants.{Served}
use Rattle.tpol_name.specs.declared.setup.Setup.{Setup}
use Rattle.tpol_perform.specs.Performance.{PerformanceState, start_of}
use Rattle.tpol_perform.specs.Script.{performed}
use Rattle.tpol_prepare.specs.declared.scenario.StagedScene.{StagedScene}
use Rattle.tpol_laws.specs.Journal.{IsDecidedEvent, IsJournal}
use Rattle.tpol_tree.specs.declared.closed.Closed.{Closed}
use Rattle.tpol_perform.specs.Begin.{run_begun}
use Rattle.tpol_digest.specs.Digest.{policy_digest}
use Rattle.tpol_generate.specs.Generate.{generated_performance, generated_run, generated_scenario, generated_setup}
use Rattle.tpol_laws.proofs.Goes.{AreTold, Goes, goes-all, goes-begun, goes-then, goes-to-end, told-at}

-- an answered command is decided
decided-event : (setup : Setup) (past : List Event) (event : Event) → IsAnswered setup past event → IsDecidedEvent setup past event
decided-event setup past (events.Command client locality buffer reply outcome) answered = λ command session asks. record {
  authorizes = subst (λ (a : Answered). IsNotDeniedByCheck a.outcome ↔ Passes setup past locality command session) answered (authorizes setup past locality buffer command session asks);
  serves = subst (λ (a : Answered). (a.outcome ≡ Served) ↔ IsServed setup past locality command session) answered (serves setup past locality buffer command session asks);
}
decided-event setup past (events.Time ms) answered = tt
decided-event setup past (events.Presence on) answered = tt
decided-event setup past events.Reset answered = tt

pub legal-at : (setup : Setup) (later earlier : List Event) (event : Event) → IsLegal setup (later ++ event ∷ earlier) → IsAnswered setup earlier event
unfolding IsLegal
legal-at setup [] earlier event legal = legal.0
legal-at setup (first ∷ later) earlier event legal = legal-at setup later earlier event legal.1

started-journal : (setup : Setup) (p : PerformanceState) → Goes (start_of setup) p → IsJournal setup p.past p.lines
unfolding IsLegal AreTold
started-journal setup p goes =
    let legal : IsLegal setup p.past = subst (IsLegal setup) (sym goes.past) (calls-legal setup goes.calls [] tt) in
    let told : AreTold p.lines p.past = goes.told tt in
    record {
      legal = legal;
      decided = λ later earlier event parted. decided-event setup earlier event (legal-at setup later earlier event (subst (IsLegal setup) parted legal));
      told = λ later earlier event parted. told-at p.lines later earlier event (subst (AreTold p.lines) parted told);
    }

-- that of a scene
pub scene-journal : (staged : StagedScene) → IsJournal staged.setup (performed staged).past (performed staged).lines
unfolding performed
scene-journal staged = started-journal staged.setup (performed staged) (goes-all staged.scenario staged.script (start_of staged.setup))

-- that of the run of a policy that is made up
pub generated-journal : (order : ℕ) (closed : Closed)
    → IsJournal (generated_setup order (policy_digest closed)) (generated_performance order closed).past (generated_performance order closed).lines
unfolding generated_performance
generated-journal order closed =
    let setup = generated_setup order (policy_digest closed) in
    let scenario = generated_scenario setup closed in
    let begun = run_begun scenario (codes "gen") generated_run (start_of setup) in
    started-journal setup (generated_performance order closed)
    (goes-then (start_of setup) begun _ (goes-begun scenario (codes "gen") generated_run (start_of setup)) (goes-to-end scenario 1 begun))

-- What holds of a machine after each kind of event.
use Rattle.std.proofs.Common.{◌≡◌, ℕ, Bool, List, [], ◌∷◌, replicate, Option, Some, None, IfSome, refl, ap, sym, subst, ◌∙◌}
use Rattle.tpol_name.specs.declared.setup.Setup.{Setup}
use Rattle.tpm_rules.specs.declared.outcome.Outcome.{Outcome}
use Rattle.tpm_bindings.specs.State.{SessionState}
use Rattle.tpm_context.specs.Saved.{AreApart, SavedState}
use Rattle.tpm_session.specs.Slots.{slot_count}
use Rattle.tpm_engine.specs.declared.event.Event.{Event}
use Rattle.tpm_engine.specs.declared.event.Event.TheVariants as events
use Rattle.tpm_engine.specs.declared.opened.Opened.{Opened}
use Rattle.tpm_engine.specs.Answers.{answer}
use Rattle.tpm_engine.specs.Deeds.{Passes, Resets, Shifts, after_deed, after_event}
use Rattle.tpm_engine.specs.Events.{Answered, event_of}
use Rattle.tpm_engine.specs.Legal.{IsLegal, IsMachine, answer_to}
use Rattle.tpm_engine.specs.Sights.{sight_after, sight_of_tables}
use Rattle.tpm_engine.specs.Tables.{TableState, first_tables}
use Rattle.tpm_engine.specs.Views.{next_number, time_of, view_of, world_at}
use Rattle.tpm_engine.proofs.Link.{link, link-start}
use Rattle.tpm_engine.proofs.Lookups.{apart-view}

-- no session is live or saved
pub apart-start : (setup : Setup) (sessions : List (Option SessionState)) (saved : List (Option SavedState))
    → sessions ≡ replicate slot_count None → saved ≡ replicate slot_count None → AreApart sessions saved
apart-start setup sessions saved live kept =
    subst (λ (s : List (Option SessionState)). AreApart s saved) (sym live)
    (subst (λ (s : List (Option SavedState)). AreApart (replicate slot_count None) s) (sym kept)
    (subst (λ (t : TableState). AreApart t.sessions t.saved) (link-start setup) (apart-view setup [])))

pub machine-started : (setup : Setup) (kept : TableState) → kept ≡ first_tables setup → IsMachine setup [] kept
unfolding IsLegal
machine-started setup kept same = record { tables = same ∙ sym (link-start setup); legal = tt }

pub machine-new : (setup : Setup) (events : List Event) (kept : TableState) → events ≡ [] → kept ≡ first_tables setup → IsMachine setup events kept
machine-new setup events kept none same = subst (λ (l : List Event). IsMachine setup l kept) (sym none) (machine-started setup kept same)

module _ (setup : Setup) (past : List Event) (kept : TableState) (machine : IsMachine setup past kept) where
  pub machine-time : kept.world.time ≡ time_of setup past
  unfolding view_of world_at
  machine-time = ap (λ (t : TableState). t.world.time) machine.tables

  pub machine-sight : sight_of_tables kept ≡ sight_after setup past
  unfolding sight_after
  machine-sight = ap sight_of_tables machine.tables

  pub machine-passed : (ms : ℕ) (later : List Event) (after : TableState) → after ≡ after_deed 0 (Passes ms) kept → later ≡ events.Time ms ∷ past → IsMachine setup later after
  unfolding IsLegal
  machine-passed ms later after changed same =
      subst (λ (l : List Event). IsMachine setup l after) (sym same)
      (record { tables = changed ∙ (ap (after_deed 0 (Passes ms)) machine.tables ∙ sym (link setup past (events.Time ms))); legal = (tt, machine.legal) })

  pub machine-shifted : (on : Bool) (later : List Event) (after : TableState) → after ≡ after_deed 0 (Shifts on) kept → later ≡ events.Presence on ∷ past → IsMachine setup later after
  unfolding IsLegal
  machine-shifted on later after changed same =
      subst (λ (l : List Event). IsMachine setup l after) (sym same)
      (record { tables = changed ∙ (ap (after_deed 0 (Shifts on)) machine.tables ∙ sym (link setup past (events.Presence on))); legal = (tt, machine.legal) })

  pub machine-reset : (later : List Event) (after : TableState) → after ≡ after_deed 0 Resets kept → later ≡ events.Reset ∷ past → IsMachine setup later after
  unfolding IsLegal
  machine-reset later after changed same =
      subst (λ (l : List Event). IsMachine setup l after) (sym same)
      (record { tables = changed ∙ (ap (after_deed 0 Resets) machine.tables ∙ sym (link setup past events.Reset)); legal = (tt, machine.legal) })

  -- the answer over the tables is that over the journal
  pub machine-answer : (number locality : ℕ) (buffer : List ℕ) → number ≡ next_number past → answer kept number locality buffer ≡ answer_to setup past locality buffer
  machine-answer number locality buffer count =
      ap (λ (t : TableState). answer t number locality buffer) machine.tables ∙ ap (λ n. answer (view_of setup past) n locality buffer) count

  pub machine-executed : (number client locality : ℕ) (buffer reply : List ℕ) (outcome : Outcome) (later : List Event) (after : TableState)
      → number ≡ next_number past
      → reply ≡ (answer kept number locality buffer).reply → outcome ≡ (answer kept number locality buffer).outcome
      → after ≡ after_event kept number (event_of client locality buffer (answer kept number locality buffer))
      → later ≡ events.Command client locality buffer reply outcome ∷ past
      → IsMachine setup later after
  unfolding IsLegal
  machine-executed number client locality buffer reply outcome later after count replied became changed same =
      let answered = machine-answer number locality buffer count in
      let event : events.Command client locality buffer reply outcome ≡ event_of client locality buffer (answer_to setup past locality buffer) =
      ap (λ r. events.Command client locality buffer r outcome) (replied ∙ ap (λ (a : Answered). a.reply) answered)
      ∙ ap (λ o. events.Command client locality buffer (answer_to setup past locality buffer).reply o) (became ∙ ap (λ (a : Answered). a.outcome) answered) in
      subst (λ (l : List Event). IsMachine setup l after) (sym (same ∙ ap (λ e. e ∷ past) event))
      (record {
        tables =
            changed
            ∙ (ap (λ (t : TableState). after_event t number (event_of client locality buffer (answer kept number locality buffer))) machine.tables
            ∙ (ap (λ n. after_event (view_of setup past) n (event_of client locality buffer (answer kept number locality buffer))) count
            ∙ (ap (λ a. after_event (view_of setup past) (next_number past) (event_of client locality buffer a)) answered
            ∙ sym (link setup past (event_of client locality buffer (answer_to setup past locality buffer))))));
        legal = (refl, machine.legal);
      })

-- a fact about what is opened
pub if-opened : (P : Opened → Type 0) (opened target : Option Opened) → opened ≡ target → ((x : Opened) → target ≡ Some x → P x) → IfSome opened P
if-opened P None target same each = tt
if-opened P (Some x) target same each = each x (sym same)

-- What becomes of the world and of a session's state by an event of a run: a session starts, is shown a fact, or
-- nothing is done.
use Rattle.std.proofs.Common.{◌≡◌, ℕ, Bool, true, List, [], ◌∷◌, Option, None, if◌then◌else◌, refl, ap, ◌∙◌}
use Rattle.tpol_name.specs.declared.setup.Setup.{Setup}
use Rattle.tpol_tree.specs.declared.facts.Fact.{Fact}
use Rattle.tpm_bindings.specs.State.{SessionState}
use Rattle.tpm_session.specs.Kept.{state_of, with_fact, without_facts}
use Rattle.tpm_world.specs.Hashes.{nonce_of_event}
use Rattle.tpm_world.specs.World.{WorldState, world_of}
use Rattle.tpm_engine.specs.declared.event.Event.{Event}
use Rattle.tpm_engine.specs.Deeds.{Deed, Idle, Restarts, Shows, SessionUse, Starts, deed_of, use_of}
use Rattle.tpm_engine.specs.Facts.{Moment}
use Rattle.tpm_engine.specs.Views.{counter_after, counter_of, counter_used, facts_after, facts_of, facts_used, held_after, held_used, indices_after, indices_of, is_held, moment_of, next_number, nonce_after, nonce_of, nonce_used, pcrs_after, pcrs_of, presence_after, presence_of, reset_count_after, reset_count_of, restart_count_after, restart_count_of, sequence_after, sequence_of, session_state, start_after, start_of, time_after, time_of, world_at}
use Rattle.tpol_laws.proofs.After.{same-number}

-- ---- the world and a session by a deed and a use

abbrev world_by : Setup → List Event → Deed → WorldState
world_by setup past deed = record (world_of setup) {
  indices = indices_after deed (indices_of setup past);
  pcrs = pcrs_after deed (pcrs_of setup past);
  time = time_after deed (time_of setup past);
  reset_count = reset_count_after deed (reset_count_of setup past);
  restart_count = restart_count_after deed (restart_count_of setup past);
  presence = presence_after deed (presence_of setup past);
}

world-by : (setup : Setup) (past : List Event) (event : Event) → world_at setup (event ∷ past) ≡ world_by setup past (deed_of event)
unfolding world_at indices_of pcrs_of time_of reset_count_of restart_count_of presence_of
world-by setup past event = refl

world-now : (setup : Setup) (past : List Event) → world_by setup past Idle ≡ world_at setup past
unfolding world_at
world-now setup past = refl

-- what is held, and what is saved, beside the state
pub record Held : Type 0 where
  pub held : Bool
  pub sequence : Option ℕ
  pub state : SessionState

abbrev pub held_of : Setup → List Event → ℕ → Held
held_of setup past session = record { held = is_held past session; sequence = sequence_of past session; state = session_state setup past session }

abbrev held_by : Setup → List Event → ℕ → Deed → Option SessionUse → Held
held_by setup past session deed uses = record {
  held = held_used uses session (held_after deed session (is_held past session));
  sequence = sequence_after deed session (next_number past) (sequence_of past session);
  state = state_of (start_after deed session (time_of setup past) (start_of setup past session))
      (nonce_used uses session (nonce_of_event setup.seed (next_number past)) (nonce_after deed session (nonce_of_event setup.seed (next_number past)) (nonce_of setup past session)))
      (facts_used uses session (facts_after deed session (moment_of setup past session) (facts_of setup past session)))
      (counter_used uses session (counter_after deed session (moment_of setup past session) (counter_of setup past session)));
}

held-by : (setup : Setup) (past : List Event) (event : Event) (session : ℕ) → held_of setup (event ∷ past) session ≡ held_by setup past session (deed_of event) (use_of event)
unfolding is_held sequence_of session_state start_of nonce_of facts_of counter_of
held-by setup past event session = refl

held-now : (setup : Setup) (past : List Event) (session : ℕ) → held_by setup past session Idle None ≡ held_of setup past session
unfolding session_state
held-now setup past session = refl

-- ---- nothing is done

pub record Idles (setup : Setup) (past : List Event) (event : Event) (session : ℕ) : Type 0 where
  pub world : world_at setup (event ∷ past) ≡ world_at setup past
  pub held : held_of setup (event ∷ past) session ≡ held_of setup past session

pub idles : (setup : Setup) (past : List Event) (event : Event) (session : ℕ) → deed_of event ≡ Idle → use_of event ≡ None → Idles setup past event session
idles setup past event session deed uses = record {
  world = world-by setup past event ∙ ap (world_by setup past) deed ∙ world-now setup past;
  held = held-by setup past event session
      ∙ ap (λ d. held_by setup past session d (use_of event)) deed
      ∙ ap (held_by setup past session Idle) uses
      ∙ held-now setup past session;
}

-- ---- a session starts

pub record Begins (setup : Setup) (past : List Event) (event : Event) (session : ℕ) : Type 0 where
  pub world : world_at setup (event ∷ past) ≡ world_at setup past
  pub held : held_of setup (event ∷ past) session
      ≡ record { held = true; sequence = None; state = state_of (time_of setup past) (nonce_of_event setup.seed (next_number past)) [] None }

pub begins : (setup : Setup) (past : List Event) (event : Event) (session : ℕ) → deed_of event ≡ Starts session → use_of event ≡ None → Begins setup past event session
begins setup past event session deed uses = record {
  world = world-by setup past event ∙ ap (world_by setup past) deed ∙ world-now setup past;
  held = held-by setup past event session
      ∙ ap (λ d. held_by setup past session d (use_of event)) deed
      ∙ ap (held_by setup past session (Starts session)) uses
      ∙ ap (λ (b : Bool). record {
        held = if b then true else is_held past session;
        sequence = if b then None else sequence_of past session;
        state = state_of (if b then time_of setup past else start_of setup past session)
            (if b then nonce_of_event setup.seed (next_number past) else nonce_of setup past session)
            (if b then [] else facts_of setup past session)
            (if b then None else counter_of setup past session);
      }) (same-number session);
}

-- ---- a session is shown a fact

pub record ShowsOn (setup : Setup) (past : List Event) (event : Event) (session : ℕ) (fact : Moment → Fact) : Type 0 where
  pub world : world_at setup (event ∷ past) ≡ world_at setup past
  pub held : held_of setup (event ∷ past) session
      ≡ record { held = is_held past session; sequence = sequence_of past session; state = with_fact (session_state setup past session) (fact (moment_of setup past session)) (world_at setup past).pcrs.counter }

shown-now : (setup : Setup) (past : List Event) (session : ℕ) (fact : Moment → Fact) → held_by setup past session (Shows session fact) None
    ≡ record { held = is_held past session; sequence = sequence_of past session; state = with_fact (session_state setup past session) (fact (moment_of setup past session)) (world_at setup past).pcrs.counter }
unfolding session_state
shown-now setup past session fact = rw (same-number session) refl

pub shows-on : (setup : Setup) (past : List Event) (event : Event) (session : ℕ) (fact : Moment → Fact) → deed_of event ≡ Shows session fact → use_of event ≡ None
    → ShowsOn setup past event session fact
shows-on setup past event session fact deed uses = record {
  world = world-by setup past event ∙ ap (world_by setup past) deed ∙ world-now setup past;
  held = held-by setup past event session
      ∙ ap (λ d. held_by setup past session d (use_of event)) deed
      ∙ ap (held_by setup past session (Shows session fact)) uses
      ∙ shown-now setup past session fact;
}

-- ---- a session loses its facts

pub record RestartsOn (setup : Setup) (past : List Event) (event : Event) (session : ℕ) : Type 0 where
  pub world : world_at setup (event ∷ past) ≡ world_at setup past
  pub held : held_of setup (event ∷ past) session
      ≡ record { held = is_held past session; sequence = sequence_of past session; state = without_facts (session_state setup past session) }

restarted-now : (setup : Setup) (past : List Event) (session : ℕ) → held_by setup past session (Restarts session) None
    ≡ record { held = is_held past session; sequence = sequence_of past session; state = without_facts (session_state setup past session) }
unfolding session_state
restarted-now setup past session = rw (same-number session) refl

pub restarts-on : (setup : Setup) (past : List Event) (event : Event) (session : ℕ) → deed_of event ≡ Restarts session → use_of event ≡ None → RestartsOn setup past event session
restarts-on setup past event session deed uses = record {
  world = world-by setup past event ∙ ap (world_by setup past) deed ∙ world-now setup past;
  held = held-by setup past event session
      ∙ ap (λ d. held_by setup past session d (use_of event)) deed
      ∙ ap (held_by setup past session (Restarts session)) uses
      ∙ restarted-now setup past session;
}

-- What the machine keeps: the world, and the policy sessions that are live or saved.
use Rattle.std.specs.Prelude.{ℕ, List, Option, Some, None, replicate}
use Rattle.std.specs.Option.{option_map, option_or}
use Rattle.tpol_name.specs.declared.setup.Setup.{Setup}
use Rattle.tpm_bindings.specs.State.{SessionState}
use Rattle.tpm_context.specs.Saved.{SavedState}
use Rattle.tpm_session.specs.Slots.{changed_at, content_at, slot_count, state_at, with_content, with_state}
use Rattle.tpm_world.specs.World.{WorldState, world_of}

pub record TableState : Type 0 where
  -- the hierarchies, entities, PCRs, clock and presence
  pub world : WorldState
  -- the live sessions by slot, and the saved ones
  pub sessions : List (Option SessionState)
  pub saved : List (Option SavedState)

-- the tables of a machine that just started
abbrev pub first_tables : Setup → TableState
first_tables setup = record {
  world = world_of setup;
  sessions = replicate slot_count None;
  saved = replicate slot_count None;
}

-- A session is held from its start to its end, and is live or saved. The held session with a handle:
abbrev pub held_at : TableState → ℕ → Option SessionState
held_at tables session =
    option_or (state_at tables.sessions session) (option_map (λ saved. saved.state) (content_at tables.saved session))

-- what is saved, with what a change makes of its state
abbrev pub saved_changed : (SessionState → SessionState) → SavedState → SavedState
saved_changed change saved = record saved { state = change saved.state }

-- the tables with what a change makes of the held session with this handle
abbrev pub with_changed : TableState → ℕ → (SessionState → SessionState) → TableState
with_changed tables session change = record tables {
  sessions = changed_at tables.sessions session change;
  saved = with_content tables.saved session (option_map (saved_changed change) (content_at tables.saved session));
}

-- the tables with a session that just started under this handle
abbrev pub with_started : TableState → ℕ → SessionState → TableState
with_started tables session state = record tables {
  sessions = with_state tables.sessions session (Some state);
  saved = with_content tables.saved session None;
}

-- the tables without the session with this handle
abbrev pub without : TableState → ℕ → TableState
without tables session = record tables {
  sessions = with_state tables.sessions session None;
  saved = with_content tables.saved session None;
}

-- the tables with the held session saved under a sequence number, so that it is not live
abbrev pub with_saved : TableState → ℕ → ℕ → TableState
with_saved tables session sequence = record tables {
  sessions = with_state tables.sessions session None;
  saved = with_content tables.saved session (option_map (λ state. record { sequence = sequence; state = state }) (held_at tables session));
}

-- the tables with the held session live, so that it is not saved
abbrev pub with_loaded : TableState → ℕ → TableState
with_loaded tables session = record tables {
  sessions = with_state tables.sessions session (held_at tables session);
  saved = with_content tables.saved session None;
}

-- the tables without any session
abbrev pub without_sessions : TableState → TableState
without_sessions tables = record tables { sessions = replicate slot_count None; saved = replicate slot_count None }

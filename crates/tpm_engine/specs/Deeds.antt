-- What an event did, in a few kinds, and what becomes of the tables by it.
use Rattle.std.specs.Prelude.{ℕ, Bool, [], List, Option, Some, None, option_and_then, Result, Ok, Err, ◌==◌, ◌%◌, if◌then◌else◌}
use Rattle.std.specs.Option.{option_map_or}
use Rattle.tpol_base.specs.declared.command_code.CommandCode.TheVariants.{StartAuthSession}
use Rattle.tpol_base.specs.declared.digest.Digest32.{Digest32}
use Rattle.tpol_base.specs.CommandCode.{number_of_code}
use Rattle.tpol_base.specs.Handle.{rs_pw}
use Rattle.tpol_tree.specs.declared.facts.Fact.{Fact}
use Rattle.tpol_wire.specs.declared.auth_area.AuthArea.{AuthArea}
use Rattle.tpol_wire.specs.declared.command.Command.{Command}
use Rattle.tpol_wire.specs.declared.command.Command.TheVariants as commands
use Rattle.tpol_wire.specs.declared.reply.Reply.{Reply}
use Rattle.tpol_wire.specs.declared.reply.Reply.TheVariants as replies
use Rattle.tpol_wire.specs.Reading.{reading}
use Rattle.tpol_wire.specs.ReplyReading.{reply_reading}
use Rattle.tpm_bindings.specs.State.{SessionState}
use Rattle.tpm_nv.specs.Indices.{incremented_at, written_at}
use Rattle.tpm_pcr.specs.Pcrs.{extended}
use Rattle.tpm_session.specs.Kept.{state_of, with_fact, with_nonce, without_facts}
use Rattle.tpol_wire.specs.Handles.{area_of}
use Rattle.tpm_world.specs.Hashes.{nonce_of_event}
use Rattle.tpm_world.specs.Surroundings.{passed, reset, with_presence}
use Rattle.tpm_world.specs.World.{WorldState}
use Rattle.tpm_engine.specs.declared.event.Event.{Event}
use Rattle.tpm_engine.specs.declared.event.Event.TheVariants as events
use Rattle.tpm_engine.specs.Events.{is_served, is_success}
use Rattle.tpm_engine.specs.Facts.{Moment, moment, shown_by}
use Rattle.tpm_engine.specs.Tables.{TableState, with_changed, with_loaded, with_saved, with_started, without, without_sessions}

-- what an event did; sessions, PCRs and indices by handle
pub data Deed : Type 0 where
  Idle : Deed
  -- so many milliseconds pass
  Passes : ℕ → Deed
  -- physical presence is on or off from now on
  Shifts : Bool → Deed
  -- a TPM Reset
  Resets : Deed
  -- a PCR is extended by a digest
  Extends : ℕ → Digest32 → Deed
  -- an index is written from an offset on, and a counter is incremented
  Writes : ℕ → ℕ → List ℕ → Deed
  Increments : ℕ → Deed
  -- a session starts, ends, loses its facts, is saved, is loaded
  Starts : ℕ → Deed
  Ends : ℕ → Deed
  Restarts : ℕ → Deed
  Saves : ℕ → Deed
  Loads : ℕ → Deed
  -- a session is shown a fact
  Shows : ℕ → (Moment → Fact) → Deed

-- the policy session through which a command was served, and whether it continues
pub record SessionUse : Type 0 where
  pub session : ℕ
  pub keep : Bool

-- ---- what a command did, read from its bytes

-- the session that a reply to StartAuthSession names
abbrev pub started_session : Reply → Option ℕ
started_session (replies.StartAuthSession session nonce) = Some session
started_session _ = None

abbrev pub started_by : List ℕ → Deed
started_by reply =
    option_map_or Starts (option_and_then (λ found. started_session found.0) (reply_reading (number_of_code StartAuthSession) reply)) Idle

-- of a command that is no policy command
abbrev pub plain_deed : Command → List ℕ → Deed
plain_deed (commands.StartAuthSession tpm_key bind nonce) reply = started_by reply
plain_deed (commands.ContextSave session) reply = Saves session
plain_deed (commands.ContextLoad sequence session digest) reply = Loads session
plain_deed (commands.FlushContext session) reply = Ends session
plain_deed (commands.PolicyRestart session) reply = Restarts session
plain_deed (commands.PcrExtend pcr auth digest) reply = Extends pcr digest
plain_deed (commands.NvWrite authority index auth bytes offset) reply = Writes index offset bytes
plain_deed (commands.NvIncrement authority index auth) reply = Increments index
plain_deed _ reply = Idle

abbrev pub command_deed : Command → List ℕ → Deed
command_deed command reply = option_map_or (λ shown. Shows shown.0 shown.1) (shown_by command) (plain_deed command reply)

abbrev pub deed_in : Result Command ℕ → List ℕ → Deed
deed_in (Ok command) reply = command_deed command reply
deed_in (Err code) reply = Idle

-- continueSession, bit 0 of a session's attributes
abbrev pub continues : ℕ → Bool
continues attributes = attributes % 2 == 1

abbrev pub area_use : Option AuthArea → Option SessionUse
area_use None = None
area_use (Some area) =
    if area.session == rs_pw then None else Some (record { session = area.session; keep = continues area.attributes })

abbrev pub use_in : Result Command ℕ → Option SessionUse
use_in (Ok command) = area_use (area_of command)
use_in (Err code) = None

-- ---- what an event did

-- a command that did not succeed did nothing
abbrev pub deed_of : Event → Deed
deed_of (events.Command client locality buffer reply outcome) = if is_success outcome then deed_in (reading buffer) reply else Idle
deed_of (events.Time ms) = Passes ms
deed_of (events.Presence on) = Shifts on
deed_of events.Reset = Resets

-- the policy session through which an event's command was served, if there is one
abbrev pub use_of : Event → Option SessionUse
use_of (events.Command client locality buffer reply outcome) = if is_served outcome then use_in (reading buffer) else None
use_of _ = None

-- ---- the tables after an event

-- what a session's state becomes by a fact
abbrev pub with_shown : WorldState → ℕ → (Moment → Fact) → SessionState → SessionState
with_shown world number fact state =
    with_fact state (fact (moment world number state.start state.facts)) world.pcrs.counter

abbrev pub after_deed : ℕ → Deed → TableState → TableState
after_deed number Idle tables = tables
after_deed number (Passes ms) tables = record tables { world = passed ms tables.world }
after_deed number (Shifts on) tables = record tables { world = with_presence on tables.world }
after_deed number Resets tables = record (without_sessions tables) { world = reset tables.world }
after_deed number (Extends pcr digest) tables =
    record tables { world = record tables.world { pcrs = extended tables.world.pcrs pcr digest } }
after_deed number (Writes index offset bytes) tables =
    record tables { world = record tables.world { indices = written_at index offset bytes tables.world.indices } }
after_deed number (Increments index) tables =
    record tables { world = record tables.world { indices = incremented_at index tables.world.indices } }
after_deed number (Starts session) tables =
    with_started tables session (state_of tables.world.time (nonce_of_event tables.world.seed number) [] None)
after_deed number (Ends session) tables = without tables session
after_deed number (Restarts session) tables = with_changed tables session without_facts
after_deed number (Saves session) tables = with_saved tables session number
after_deed number (Loads session) tables = with_loaded tables session
after_deed number (Shows session fact) tables = with_changed tables session (with_shown tables.world number fact)

-- a session that served goes on without facts and with a new nonce, or ends
abbrev pub after_use : ℕ → Option SessionUse → TableState → TableState
after_use number None tables = tables
after_use number (Some served) tables =
    if served.keep then with_changed tables served.session (λ state. with_nonce state (nonce_of_event tables.world.seed number))
    else without tables served.session

abbrev pub after_event : TableState → ℕ → Event → TableState
after_event tables number event = after_use number (use_of event) (after_deed number (deed_of event) tables)

-- Lists of calls of a machine, and the journals that they make.
use Rattle.std.specs.Prelude.{ℕ, Bool, List, [], ◌∷◌}
use Rattle.tpol_name.specs.declared.setup.Setup.{Setup}
use Rattle.tpm_engine.specs.declared.event.Event.{Event}
use Rattle.tpm_engine.specs.declared.event.Event.TheVariants as events
use Rattle.tpm_engine.specs.Events.{event_of}
use Rattle.tpm_engine.specs.Legal.{answer_to}

-- a call that makes an event, with its arguments
pub data Call : Type 0 where
  -- a client, its locality, and the bytes
  Execute : ℕ → ℕ → List ℕ → Call
  Advance : ℕ → Call
  SetPresence : Bool → Call
  Reset : Call

-- the event that a call makes after these
abbrev pub event_by : Setup → List Event → Call → Event
event_by setup past (Execute client locality buffer) = event_of client locality buffer (answer_to setup past locality buffer)
event_by setup past (Advance ms) = events.Time ms
event_by setup past (SetPresence on) = events.Presence on
event_by setup past Reset = events.Reset

-- the journal after calls in order
unfoldable pub journal_after : Setup → List Call → List Event → List Event
journal_after setup [] past = past
journal_after setup (call ∷ calls) past = journal_after setup calls (event_by setup past call ∷ past)

-- the call that made an event
abbrev pub call_of : Event → Call
call_of (events.Command client locality buffer reply outcome) = Execute client locality buffer
call_of (events.Time ms) = Advance ms
call_of (events.Presence on) = SetPresence on
call_of events.Reset = Reset

-- What contracts see of a journal, and of a machine.
use Rattle.std.specs.Prelude.{ℕ, ◌<◌, List, [], slice_index_or, ⊤}
use Rattle.tpol_name.specs.declared.setup.Setup.{Setup}
use Rattle.tpm_engine.specs.declared.entry.Change.{Change}
use Rattle.tpm_engine.specs.declared.entry.Change.TheVariants as changes
use Rattle.tpm_engine.specs.declared.entry.Entry.{Entry}
use Rattle.tpm_engine.specs.declared.entry.Entry.TheVariants as entries
use Rattle.tpm_engine.specs.declared.event.Event.{Event}
use Rattle.tpm_engine.specs.declared.event.Event.TheVariants as events
use Rattle.tpm_engine.specs.declared.event.EventView.{EventView}
use Rattle.tpm_engine.specs.declared.event.EventView.TheVariants as views

-- the events, newest first, and how many more have room
pub record JournalState : Type 0 where
  pub events : List Event
  pub spare : ℕ

-- a machine is what it started from, and its journal
pub record MachineState : Type 0 where
  pub setup : Setup
  pub events : List Event
  pub spare : ℕ

-- the event of a change of the surroundings
abbrev pub event_of_change : Change → Event
event_of_change (changes.Time ms) = events.Time ms
event_of_change (changes.Presence on) = events.Presence on
event_of_change changes.Reset = events.Reset

-- the event that a journal keeps by an entry, among the bytes of its commands and those of its replies
abbrev pub event_kept : List (List ℕ) → List (List ℕ) → Entry → Event
event_kept commands replies (entries.Command locality client outcome buffer reply) =
    events.Command client locality (slice_index_or commands buffer []) (slice_index_or replies reply []) outcome
event_kept commands replies (entries.Change change) = event_of_change change

-- an entry's command is among so many commands, and its reply among so many replies
abbrev pub LiesWithin : ℕ → ℕ → Entry → Type 0
LiesWithin commands replies (entries.Command locality client outcome buffer reply) = (buffer < commands) × (reply < replies)
LiesWithin commands replies (entries.Change change) = ⊤

-- the event that a view shows
abbrev pub event_seen : EventView → Event
event_seen (views.Command client locality buffer reply outcome) = events.Command client locality buffer.now reply.now outcome
event_seen (views.Time ms) = events.Time ms
event_seen (views.Presence on) = events.Presence on
event_seen views.Reset = events.Reset

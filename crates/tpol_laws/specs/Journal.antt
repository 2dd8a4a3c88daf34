-- The journal of a scene, and what its lines tell of each event.
use Rattle.std.specs.Prelude.{◌≡◌, ◌↔◌, ◌∷◌, ◌++◌, ⊤, ℕ, List, Contains}
use Rattle.tpm_engine.specs.declared.event.Event.{Event}
use Rattle.tpm_engine.specs.declared.event.Event.TheVariants as events
use Rattle.tpm_engine.specs.Legal.{IsLegal}
use Rattle.tpm_engine.specs.Uses.{AsksPolicySession, IsNotDeniedByCheck, IsServed, Passes}
use Rattle.tpm_engine.specs.Views.{next_number}
use Rattle.tpm_rules.specs.declared.outcome.Outcome.{Outcome}
use Rattle.tpm_rules.specs.declared.outcome.Outcome.TheVariants.{Served}
use Rattle.tpol_lines.specs.Events.{command_line, presence_line, reset_line, time_line}
use Rattle.tpol_lines.specs.Lines.{line_of}
use Rattle.tpol_name.specs.declared.setup.Setup.{Setup}
use Rattle.tpol_wire.specs.declared.command.Command.{Command}

-- the line of an event of this number
abbrev pub event_line : ℕ → Event → List ℕ
event_line number (events.Command client locality buffer reply outcome) = command_line number client locality buffer reply outcome
event_line number (events.Time ms) = time_line number ms
event_line number (events.Presence on) = presence_line number on
event_line number events.Reset = reset_line number

-- A command asked, after these events, for this policy session. The session authorizes it, so that no deferred check
-- denies it, exactly where its policy commands in the journal give the entity's authPolicy and every deferred check
-- holds; it is served exactly where its own rules hold too, and its own policy session, if it has one, has room.
pub record IsDecided (setup : Setup) (past : List Event) (locality : ℕ) (command : Command) (session : ℕ) (outcome : Outcome) : Type 0 where
  pub authorizes : IsNotDeniedByCheck outcome ↔ Passes setup past locality command session
  pub serves : (outcome ≡ Served) ↔ IsServed setup past locality command session

-- so each command that asks for a policy session, after these events
abbrev pub IsDecidedEvent : Setup → List Event → Event → Type 0
IsDecidedEvent setup past (events.Command client locality buffer reply outcome) =
    (command : Command) (session : ℕ) → AsksPolicySession setup past buffer command session
    → IsDecided setup past locality command session outcome
IsDecidedEvent setup past _ = ⊤

-- These are the events, newest first, of a machine that started from this setup: each command among them has the
-- machine's answer, and those that ask for a policy session are decided. The lines tell each event.
pub record IsJournal (setup : Setup) (past : List Event) (lines : List (List ℕ)) : Type 0 where
  pub legal : IsLegal setup past
  pub decided : (later earlier : List Event) (event : Event) → past ≡ later ++ event ∷ earlier → IsDecidedEvent setup earlier event
  pub told : (later earlier : List Event) (event : Event) → past ≡ later ++ event ∷ earlier
      → Contains lines (line_of (event_line (next_number earlier) event))

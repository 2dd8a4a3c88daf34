-- Events: one command with its reply, or one change of the surroundings.
use Rattle.std.specs.Prelude.{ℕ, Bool, true, false, List}
use Rattle.tpm_engine.specs.declared.event.Event.{Event}
use Rattle.tpm_engine.specs.declared.event.Event.TheVariants as events
use Rattle.tpm_rules.specs.declared.outcome.Outcome.{Outcome}
use Rattle.tpm_rules.specs.declared.outcome.Outcome.TheVariants.{Accepted, Denied, Refused, Served}

-- what a machine answers to a command: the reply's bytes, and what became of the command
pub record Answered : Type 0 where
  pub reply : List ℕ
  pub outcome : Outcome

-- the event of a command, and its answer
abbrev pub event_of : ℕ → ℕ → List ℕ → Answered → Event
event_of client locality buffer answered = events.Command client locality buffer answered.reply answered.outcome

-- whether a command with this outcome succeeded: it was accepted without an authorization, or served with one
abbrev pub is_success : Outcome → Bool
is_success Accepted = true
is_success Served = true
is_success (Denied denial) = false
is_success (Refused rc) = false

abbrev pub is_served : Outcome → Bool
is_served Accepted = false
is_served Served = true
is_served (Denied denial) = false
is_served (Refused rc) = false

-- an event that is no command succeeds always
abbrev pub succeeded : Event → Bool
succeeded (events.Command client locality buffer reply outcome) = is_success outcome
succeeded (events.Time ms) = true
succeeded (events.Presence on) = true
succeeded events.Reset = true

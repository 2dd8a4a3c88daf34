-- What becomes of the tables by a command, and the response to it.
use Rattle.std.specs.Prelude.{◌≡◌, ℕ, List, [], Option, Some, None, Result, Ok, Err, ⊤, IfSome, if◌then◌else◌}
use Rattle.tpol_tree.specs.declared.facts.Fact.{Fact}
use Rattle.tpol_fields.specs.declared.fault.WireFault.{WireFault}
use Rattle.tpol_wire.specs.declared.command.Command.{Command}
use Rattle.tpol_wire.specs.declared.command.Command.TheVariants as commands
use Rattle.tpol_wire.specs.Commands.{FitsCommand}
use Rattle.tpol_wire.specs.Handles.{area_of}
use Rattle.tpm_world.specs.World.{WorldState}
use Rattle.tpm_engine.specs.declared.opened.Opened.{Opened}
use Rattle.tpm_engine.specs.declared.prepared.Prepared.{Prepared}
use Rattle.tpm_engine.specs.declared.success.Success.{Success}
use Rattle.tpm_engine.specs.Answers.{answer, opened_of, opening_of, own_rule, succeeding}
use Rattle.tpm_engine.specs.Closings.{closing_of}
use Rattle.tpm_engine.specs.Deeds.{after_deed, after_event, after_use, area_use, command_deed}
use Rattle.tpm_engine.specs.Events.{Answered, event_of, is_success}
use Rattle.tpm_engine.specs.Stops.{room_stop, session_stop}
use Rattle.tpm_engine.specs.Tables.{TableState}

-- the PCR counter that a session keeps with a fact, where it is its first of PolicyPCR
abbrev pub kept_counter : WorldState → Command → ℕ
kept_counter world (commands.PolicyPcr session given mask) = world.pcrs.counter
kept_counter world _ = 0

-- the tables after a command that succeeded with this reply, and after one that had this answer
abbrev pub after_success : TableState → ℕ → Command → List ℕ → TableState
after_success tables number command reply =
    after_use number (area_use (area_of command)) (after_deed number (command_deed command reply) tables)

abbrev pub after_command : TableState → ℕ → Command → Answered → TableState
after_command tables number command answered =
    if is_success answered.outcome then after_success tables number command answered.reply else tables

-- the facts of the session that a command starts, if it starts one
abbrev pub first_facts : Command → Option (List Fact)
first_facts (commands.StartAuthSession tpm_key bind nonce) = Some []
first_facts _ = None

-- what is prepared for a command that succeeds over these tables
pub record IsReady (tables : TableState) (command : Command) (success : Success) : Type 0 where
  pub fits : FitsCommand command
  pub session : session_stop tables command ≡ None
  pub room : room_stop tables command ≡ None
  pub rule : own_rule tables command ≡ None
  pub closing : success.closing ≡ closing_of command
  pub facts : success.facts ≡ first_facts command

-- the same of what was read of a client's bytes, where it is a command
abbrev pub IsReadyBy : TableState → Result Command WireFault → Option Success → Type 0
IsReadyBy tables (Ok command) success = IfSome success (IsReady tables command)
IsReadyBy tables (Err fault) success = ⊤

-- the tables after what is prepared, and what it opens; without a success nothing
abbrev pub after_ready : TableState → ℕ → Result Command WireFault → Option Success → TableState
after_ready tables number (Ok command) (Some success) =
    after_success tables number command (succeeding tables number command).reply
after_ready tables number (Ok command) None = tables
after_ready tables number (Err fault) success = tables

abbrev pub opened_by_ready : TableState → Result Command WireFault → Option Success → Option Opened
opened_by_ready tables (Ok command) (Some success) = opening_of tables command
opened_by_ready tables (Ok command) None = None
opened_by_ready tables (Err fault) success = None

-- a response gives this answer, opens this, and makes of the tables what the command makes of them
pub record IsPrepared (before : TableState) (number : ℕ) (command : Command) (answered : Answered) (opened : Option Opened) (done : Prepared) : Type 0 where
  pub reply : done.reply ≡ answered.reply
  pub outcome : done.outcome ≡ answered.outcome
  pub ready : IfSome done.success (IsReady before command)
  pub tables : after_ready before number (Ok command) done.success ≡ after_command before number command answered
  pub opens : opened_by_ready before (Ok command) done.success ≡ opened

-- a response to what was read of these bytes gives their answer, and makes of the tables what their event makes of them
pub record IsAnswer (before : TableState) (number locality : ℕ) (buffer : List ℕ) (read : Result Command WireFault) (done : Prepared) : Type 0 where
  pub reply : done.reply ≡ (answer before number locality buffer).reply
  pub outcome : done.outcome ≡ (answer before number locality buffer).outcome
  pub ready : IsReadyBy before read done.success
  pub tables : (client : ℕ) → after_ready before number read done.success
      ≡ after_event before number (event_of client locality buffer (answer before number locality buffer))
  pub opens : opened_by_ready before read done.success ≡ opened_of before number locality buffer

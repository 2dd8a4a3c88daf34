-- What the machine answers to a command, over its tables (TPM 2.0 Part 3, "Command Processing"): the code of
-- the first rule that is broken, or the fields of the reply.
use Rattle.std.specs.Prelude.{ℕ, List, Option, Some, None, Result, Ok, Err, is_some, option_map, if◌then◌else◌}
use Rattle.tpol_wire.specs.declared.command.Command.{Command}
use Rattle.tpol_wire.specs.declared.reply.Reply.{Reply}
use Rattle.tpol_wire.specs.declared.reply.Reply.TheVariants.{Refused as RefusedReply}
use Rattle.tpol_wire.specs.Reading.{reading}
use Rattle.tpol_wire.specs.Replies.{spell_reply}
use Rattle.tpm_rules.specs.declared.outcome.Outcome.{Outcome}
use Rattle.tpm_rules.specs.declared.outcome.Outcome.TheVariants.{Accepted, Served}
use Rattle.tpm_rules.specs.Rule.{or_else}
use Rattle.tpol_wire.specs.Handles.{area_of, is_policy_command}
use Rattle.tpm_world.specs.Plain.{plain_reply, plain_rule}
use Rattle.tpm_engine.specs.declared.opened.Opened.{Opened}
use Rattle.tpm_engine.specs.declared.stop.Stop.{Stop}
use Rattle.tpm_engine.specs.Authorization.{authorization_stop, authorized_handle, authorizing_state, reply_auth}
use Rattle.tpm_engine.specs.Events.{Answered}
use Rattle.tpm_engine.specs.PolicyCommands.{policy_command_reply, policy_command_rule}
use Rattle.tpm_engine.specs.SessionCommands.{is_session_command, session_reply, session_rule}
use Rattle.tpm_engine.specs.Stops.{handles_stop, refuses, room_stop, session_stop}
use Rattle.tpm_engine.specs.Tables.{TableState}

-- the first of a command's own rules that is broken
abbrev pub own_rule : TableState → Command → Option ℕ
own_rule tables command =
    if is_policy_command command then policy_command_rule tables command
    else (if is_session_command command then session_rule tables command else plain_rule tables.world command)

-- the fields of its reply where none is
abbrev pub reply_to : TableState → ℕ → Command → Reply
reply_to tables number command =
    if is_policy_command command then policy_command_reply tables command
    else (if is_session_command command then session_reply tables number command else plain_reply tables.world command)

-- the first rule of all before its own: on handles, on the authorizing session, on the authorization, on room
abbrev pub early_stop : TableState → ℕ → Command → Option Stop
early_stop tables locality command =
    or_else (handles_stop tables command)
    (or_else (session_stop tables command)
    (or_else (authorization_stop tables locality command)
    (room_stop tables command)))

-- the first rule of all that is broken
abbrev pub first_stop : TableState → ℕ → Command → Option Stop
first_stop tables locality command =
    or_else (early_stop tables locality command) (option_map refuses (own_rule tables command))

-- a command succeeds by this reply: it is served where it was authorized
abbrev pub success_of : Command → Outcome
success_of command = if is_some (area_of command) then Served else Accepted

abbrev pub succeeding : TableState → ℕ → Command → Answered
succeeding tables number command = record {
  reply = spell_reply (reply_to tables number command) (reply_auth tables number command (reply_to tables number command));
  outcome = success_of command;
}

-- a command that is stopped has the reply of the code alone
abbrev pub stopped : Stop → Answered
stopped stop = record { reply = spell_reply (RefusedReply (record { code = stop.code })) None; outcome = stop.outcome }

abbrev pub answer_unless : Option Stop → Answered → Answered
answer_unless None answered = answered
answer_unless (Some stop) answered = stopped stop

-- the answer to a command that was read
abbrev pub answer_to_command : TableState → ℕ → ℕ → Command → Answered
answer_to_command tables number locality command =
    answer_unless (first_stop tables locality command) (succeeding tables number command)

abbrev pub answer_to_reading : TableState → ℕ → ℕ → Result Command ℕ → Answered
answer_to_reading tables number locality (Ok command) = answer_to_command tables number locality command
answer_to_reading tables number locality (Err code) = stopped (refuses code)

-- the answer to bytes, as event `number`, of a client at this locality
unfoldable pub answer : TableState → ℕ → ℕ → List ℕ → Answered
answer tables number locality buffer = answer_to_reading tables number locality (reading buffer)

-- ---- what a policy session opened

-- the entity that is authorized and the session's facts, where a policy session is to authorize the command
abbrev pub opening_of : TableState → Command → Option Opened
opening_of tables command =
    option_map (λ state. record { entity = authorized_handle command; facts = state.facts }) (authorizing_state tables command)

abbrev pub opened_unless : Option Stop → Option Opened → Option Opened
opened_unless None opened = opened
opened_unless (Some stop) opened = None

abbrev pub opened_by_command : TableState → ℕ → Command → Option Opened
opened_by_command tables locality command = opened_unless (first_stop tables locality command) (opening_of tables command)

abbrev pub opened_by_reading : TableState → ℕ → Result Command ℕ → Option Opened
opened_by_reading tables locality (Ok command) = opened_by_command tables locality command
opened_by_reading tables locality (Err code) = None

-- what is opened by these bytes: there where a policy session authorized the command and it was served
unfoldable pub opened_of : TableState → ℕ → ℕ → List ℕ → Option Opened
opened_of tables number locality buffer = opened_by_reading tables locality (reading buffer)

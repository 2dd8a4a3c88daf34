-- Why a command does not succeed, and the rules that stand before its own: its handles are there, its
-- authorizing session is live and is another one than its policy session, and that has room for a fact.
use Rattle.std.specs.Prelude.{ℕ, ◌+◌, ◌==◌, not, nat_lt, List, [], ◌∷◌, length, Option, Some, None, option_map, option_and_then, if◌then◌else◌}
use Rattle.tpol_base.specs.Handle.{is_policy_session, rs_pw}
use Rattle.tpol_base.specs.ResponseCode.{of_handle, rc_reference_s0, rc_session_memory, rc_value, reference_of_handle}
use Rattle.tpol_wire.specs.declared.auth_area.AuthArea.{AuthArea}
use Rattle.tpol_wire.specs.declared.command.Command.{Command}
use Rattle.tpm_bindings.specs.State.{SessionState}
use Rattle.tpm_rules.specs.declared.outcome.Denial.{Denial}
use Rattle.tpm_rules.specs.declared.outcome.Outcome.TheVariants.{Denied, Refused}
use Rattle.tpm_rules.specs.Rule.{or_else, unless}
use Rattle.tpm_session.specs.Slots.{is_live, state_at}
use Rattle.tpm_world.specs.Entities.{handle_rule}
use Rattle.tpol_wire.specs.Handles.{area_of, handles_of, policy_session_of}
use Rattle.tpm_engine.specs.declared.stop.Stop.{Stop}
use Rattle.tpm_engine.specs.Tables.{TableState}

-- a refusal with this code
abbrev pub refuses : ℕ → Stop
refuses code = record { outcome = Refused (record { code = code }); code = code }

-- a denial, with its code
abbrev pub denies : Denial → ℕ → Stop
denies denial code = record { outcome = Denied denial; code = code }

-- ---- handles

-- that handle n of a command, counted from 1, is there: a policy session is where it is live
abbrev pub handle_stop : TableState → ℕ → ℕ → Option Stop
handle_stop tables n handle =
    if is_policy_session handle then unless (is_live tables.sessions handle) (refuses (reference_of_handle n))
    else option_map refuses (handle_rule tables.world n handle)

-- the same of these handles in order, the first of which is handle n
abbrev pub handles_from : TableState → ℕ → List ℕ → Option Stop
handles_from tables n [] = None
handles_from tables n (handle ∷ rest) = or_else (handle_stop tables n handle) (handles_from tables (n + 1) rest)

-- the same of all handles of a command
abbrev pub handles_stop : TableState → Command → Option Stop
handles_stop tables command = handles_from tables 1 (handles_of command)

-- ---- the authorizing session

-- the policy session that an area names; none where it stands for a password
abbrev pub session_of_area : AuthArea → Option ℕ
session_of_area area = if area.session == rs_pw then None else Some area.session

-- the policy session that is to authorize a command
abbrev pub authorizing_session : Command → Option ℕ
authorizing_session command = option_and_then session_of_area (area_of command)

-- that a policy session, where the command has one at handle n, is another one than the authorizing session
abbrev pub apart_stop : Option (ℕ × ℕ) → ℕ → Option Stop
apart_stop None session = None
apart_stop (Some own) session = unless (not (own.0 == session)) (refuses (rc_value + of_handle own.1))

-- that the authorizing session, where there is one, is live and not the command's policy session
abbrev pub session_stop : TableState → Command → Option Stop
session_stop tables command =
    option_and_then
    (λ session. or_else (unless (is_live tables.sessions session) (refuses rc_reference_s0)) (apart_stop (policy_session_of command) session))
    (authorizing_session command)

-- ---- room

-- that a session has room for one more fact
abbrev pub has_room : SessionState → Option Stop
has_room state = unless (nat_lt (length state.facts) 512) (refuses rc_session_memory)

-- that the policy session of a policy command has it
abbrev pub room_stop : TableState → Command → Option Stop
room_stop tables command =
    option_and_then (λ own. option_and_then has_room (state_at tables.sessions own.0)) (policy_session_of command)

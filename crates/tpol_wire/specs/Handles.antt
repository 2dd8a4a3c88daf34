-- The handles of a command, its authorization, and the policy session that a policy command acts on
-- (TPM 2.0 Part 3, the tables "Command"). Where a command is authorized, that is by its first handle.
use Rattle.std.specs.Prelude.{ℕ, Bool, true, false, List, [], ◌∷◌, ◌++◌, Option, Some, None}
use Rattle.std.specs.Option.{is_some}
use Rattle.tpol_fields.specs.Kinds.{Kind, Number, ValueOf}
use Rattle.tpol_wire.specs.declared.auth_area.AuthArea.{AuthArea}
use Rattle.tpol_wire.specs.declared.command.Command.{Command}
use Rattle.tpol_wire.specs.declared.command.Command.TheVariants as commands
use Rattle.tpol_wire.specs.Authorizations.{AreaOf}
use Rattle.tpol_wire.specs.Commands.{Values, code_of_command, fields_of}
use Rattle.tpol_wire.specs.Rows.{row}

-- the number in a field, where it is one
abbrev pub number_held : (kind : Kind) → ValueOf kind → List ℕ
number_held (Number w test code) n = n ∷ []
number_held kind v = []

-- the numbers among fields, in order
abbrev pub numbers_held : (kinds : List Kind) → Values kinds → List ℕ
numbers_held [] values = []
numbers_held (kind ∷ kinds) values = number_held kind values.0 ++ numbers_held kinds values.1

-- its handles, in the order of the wire
abbrev pub handles_of : Command → List ℕ
handles_of command = numbers_held (row (code_of_command command)).handles (fields_of command).handles

-- the area, where there is one
abbrev pub area_held : (authorized : Bool) → AreaOf authorized → Option AuthArea
area_held true area = Some area
area_held false none = None

-- its authorization, where it has one
abbrev pub area_of : Command → Option AuthArea
area_of command = area_held (row (code_of_command command)).is_authorized (fields_of command).area

-- the session of a policy command, which gets a fact of it, and the position of its handle
abbrev pub policy_session_of : Command → Option (ℕ × ℕ)
policy_session_of (commands.PolicyNv authority index session auth operand offset operation) = Some (session, 3)
policy_session_of (commands.PolicyCpHash session digest) = Some (session, 1)
policy_session_of (commands.PolicyNameHash session digest) = Some (session, 1)
policy_session_of (commands.PolicyAuthValue session) = Some (session, 1)
policy_session_of (commands.PolicyPassword session) = Some (session, 1)
policy_session_of (commands.PolicyPhysicalPresence session) = Some (session, 1)
policy_session_of (commands.PolicyCommandCode session code) = Some (session, 1)
policy_session_of (commands.PolicyCounterTimer session operand offset operation) = Some (session, 1)
policy_session_of (commands.PolicyLocality session locality) = Some (session, 1)
policy_session_of (commands.PolicyPcr session given mask) = Some (session, 1)
policy_session_of (commands.PolicyDuplicationSelect session object parent include) = Some (session, 1)
policy_session_of (commands.PolicyNvWritten session written) = Some (session, 1)
policy_session_of (commands.PolicySigned key session nonce cp_hash policy_ref expiration signature) = Some (session, 2)
policy_session_of (commands.PolicySecret entity session auth nonce cp_hash policy_ref expiration) = Some (session, 2)
policy_session_of (commands.PolicyTicket session timeout cp_hash policy_ref key ticket) = Some (session, 1)
policy_session_of (commands.PolicyAuthorize session approved policy_ref key ticket) = Some (session, 1)
policy_session_of (commands.PolicyOr session digests) = Some (session, 1)
policy_session_of (commands.PolicyAuthorizeNv authority index session auth) = Some (session, 3)
policy_session_of _ = None

-- whether it is a policy command
abbrev pub is_policy_command : Command → Bool
is_policy_command command = is_some (policy_session_of command)

-- The own rule of a policy command is that on its session, which is live.
use Rattle.std.proofs.Common.{◌≡◌, ℕ, Option, None, Some, is_some, ap, ◌∙◌, if◌then◌else◌}
use Rattle.std.specs.Option.{option_and_then, option_map_or}
use Rattle.tpol_base.specs.ResponseCode.{rc_reference_h0}
use Rattle.tpol_wire.specs.declared.command.Command.{Command}
use Rattle.tpol_wire.specs.Handles.{policy_session_of}
use Rattle.tpm_bindings.specs.State.{SessionState}
use Rattle.tpm_rules.specs.NvAuthority.{nv_authority_rule}
use Rattle.tpm_rules.specs.PolicyAuthorizeNv.{policy_authorize_nv_rule}
use Rattle.tpm_rules.specs.Rule.{or_else}
use Rattle.tpm_session.specs.Kept.{SessionView}
use Rattle.tpm_session.specs.Slots.{session_at, state_at}
use Rattle.tpm_session.proofs.Slots.{found-state}
use Rattle.tpm_world.specs.Missing.{missing_index, rule_of_index}
use Rattle.tpm_world.specs.Plain.{plain_rule}
use Rattle.tpm_world.specs.World.{WorldState}
use Rattle.tpol_base.specs.declared.command_code.CommandCode.TheVariants.{PolicyAuthorizeNv}
use Rattle.tpol_base.specs.CommandCode.{number_of_code}
use Rattle.tpol_name.specs.declared.entries.IndexEntry.{IndexEntry}
use Rattle.tpm_nv.specs.Indices.{index_of}
use Rattle.tpm_engine.specs.Answers.{own_rule}
use Rattle.tpm_engine.specs.PolicyCommands.{authorize_nv_rule, policy_command_rule, policy_rule}
use Rattle.tpm_engine.specs.SessionCommands.{is_session_command, session_rule}
use Rattle.tpm_engine.specs.Tables.{TableState}
use Rattle.tpm_engine.proofs.Stopping.{or_else-none}

-- ---- by its session

pub session-rule : (tables : TableState) (command : Command) (own : ℕ × ℕ) → policy_session_of command ≡ Some own
    → policy_command_rule tables command ≡ option_map_or (λ state. policy_rule tables.world state command) (state_at tables.sessions own.0) (Some rc_reference_h0)
session-rule tables command own policy =
    ap (option_and_then (λ (o : ℕ × ℕ). option_map_or (λ state. policy_rule tables.world state command) (state_at tables.sessions o.0) (Some rc_reference_h0))) policy

pub found-rule : (tables : TableState) (command : Command) (own : ℕ × ℕ) (session : SessionView) → policy_session_of command ≡ Some own → Some session ≡ session_at tables.sessions own.0
    → policy_command_rule tables command ≡ policy_rule tables.world session.state command
found-rule tables command own session policy found =
    session-rule tables command own policy
    ∙ ap (λ (o : Option SessionState). option_map_or (λ state. policy_rule tables.world state command) o (Some rc_reference_h0)) (found-state tables.sessions own.0 session found).1

-- ---- among the own rules

pub policy-own : (tables : TableState) (command : Command) (own : ℕ × ℕ) → policy_session_of command ≡ Some own → own_rule tables command ≡ policy_command_rule tables command
policy-own tables command own policy =
    ap (λ b. if b then policy_command_rule tables command else (if is_session_command command then session_rule tables command else plain_rule tables.world command)) (ap is_some policy)

-- ---- PolicyAuthorizeNV behind the rule on authority

pub authorize_nv-rest : (world : WorldState) (state : SessionState) (authority index : ℕ) → authorize_nv_rule world state authority index ≡ None
    → rule_of_index world index (policy_authorize_nv_rule state) ≡ None
authorize_nv-rest world state authority index none = at (index_of index world.indices) none
  where
    at : (o : Option IndexEntry)
        → option_map_or (λ entry. or_else (nv_authority_rule authority entry.public (number_of_code PolicyAuthorizeNv)) (policy_authorize_nv_rule state entry)) o (Some missing_index) ≡ None
        → option_map_or (policy_authorize_nv_rule state) o (Some missing_index) ≡ None
    at None h = h
    at (Some entry) h = (or_else-none _ _ h).1

-- What stands in the way of the goal: a policy session that may not authorize it, the first deferred check that
-- it breaks, or the first rule of its own (TPM 2.0 Part 1, "Policy Session Use"; Part 3, under its name).
use Rattle.std.specs.Prelude.{ℕ, ◌==◌, ◌&&◌, ◌||◌, Bool, true, List, length, Option, Some, None, option_map}
use Rattle.tpm_auth.specs.Passwords.{is_password}
use Rattle.tpm_bindings.specs.declared.last_auth.LastAuth.{LastAuth}
use Rattle.tpm_bindings.specs.declared.last_auth.LastAuth.TheVariants as auths
use Rattle.tpm_bindings.specs.State.{SessionState}
use Rattle.tpm_nv.specs.Counters.{count_before, greatest_count}
use Rattle.tpm_nv.specs.Rules.{increment_rule, read_rule, write_rule}
use Rattle.tpm_rules.specs.declared.checks.Use.{Use}
use Rattle.tpm_rules.specs.Checks.{first_broken_check}
use Rattle.tpm_rules.specs.Entity.{auth_policy_of, auth_value_of, is_duplicate, is_policy_available, written_state}
use Rattle.tpm_rules.specs.NvAuthority.{nv_authority_rule}
use Rattle.tpm_rules.specs.Objects.{duplicate_rule, hmac_rule, unseal_rule}
use Rattle.tpm_rules.specs.Rule.{or_else, unless}
use Rattle.tpol_base.specs.declared.check.Check.{Check}
use Rattle.tpol_base.specs.declared.command_code.CommandCode.{CommandCode}
use Rattle.tpol_base.specs.declared.command_code.CommandCode.TheVariants as codes
use Rattle.tpol_base.specs.CommandCode.{number_of_code}
use Rattle.tpol_base.specs.Name.{is_same_name}
use Rattle.tpol_base.specs.ResponseCode.{rc_auth_unavailable}
use Rattle.tpol_choose.specs.declared.block.Why.{Why}
use Rattle.tpol_choose.specs.declared.block.Why.TheVariants.{NoEntity, Deferred, GoalRule}
use Rattle.tpol_choose.specs.Clients.{Client}
use Rattle.tpol_choose.specs.Entities.{EntityAt, index_at, name_as_is, name_in_directory, object_at}
use Rattle.tpol_choose.specs.Keys.{is_same_block}
use Rattle.tpol_choose.specs.Moves.{rc_of}
use Rattle.tpol_goal.specs.declared.goal.Goal.{Goal}
use Rattle.tpol_goal.specs.declared.goal.Goal.TheVariants as goals
use Rattle.tpol_goal.specs.declared.grants.Grants.{Grants}
use Rattle.tpol_goal.specs.Commands.{goal_cp_hash, goal_name_hash}
use Rattle.tpol_goal.specs.Entities.{index_of_handle, name_in_sight, object_of_handle}
use Rattle.tpol_goal.specs.Goals.{code_of_goal}
use Rattle.tpol_goal.specs.Grants.{secret_of}
use Rattle.tpol_name.specs.declared.entries.IndexEntry.{IndexEntry}
use Rattle.tpol_name.specs.declared.sight.Sight.{Sight}

-- ---- the use of the session

-- the use of the session on the goal; its hashes are over the Names that entities have as they are
abbrev pub goal_use : Client → EntityAt → Use
goal_use client found = record {
  code = number_of_code (code_of_goal client.goal);
  duplicate_role = is_duplicate (number_of_code (code_of_goal client.goal));
  cp_hash = goal_cp_hash (name_in_sight client.sight) client.goal;
  name_hash = goal_name_hash (name_in_sight client.sight) client.goal;
  locality = client.locality;
  presence = client.sight.presence;
  time = client.sight.time;
  pcr_counter = client.sight.pcr_counter;
  written = written_state found.entity;
}

-- ---- whether the value of the entity is proved with what is granted

-- an HMAC is right where the blocks of the keys are one. With an empty key it is left out; else it is over the
-- Names of a directory, and is wrong too where the entity has another one as it is
abbrev pub is_right_mac : List ℕ → EntityAt → Bool
is_right_mac given found =
    is_same_block given (auth_value_of found.entity)
    && (length given == 0 || is_same_name (name_as_is found.handle found.entity) (name_in_directory found.handle found.entity))

-- as the last PolicyAuthValue or PolicyPassword asks for
abbrev pub proves : Grants → EntityAt → LastAuth → Bool
proves grants found auths.Password = is_password (auth_value_of found.entity) (secret_of grants.secrets found.handle)
proves grants found auths.AuthValue = is_right_mac (secret_of grants.secrets found.handle) found
proves grants found auths.Neither = true

-- ---- the goal's entity, and its own rules

pub record Judged : Type 0 where
  pub found : EntityAt
  pub rule : Option ℕ

-- an index authorizes itself
abbrev pub on_index : CommandCode → (IndexEntry → Option ℕ) → IndexEntry → Judged
on_index code own index = record {
  found = index_at index;
  rule = or_else (nv_authority_rule index.public.index index.public (number_of_code code)) (own index);
}

-- a counter that was never written goes on from the greatest count of all
abbrev pub counting_rule : Sight → IndexEntry → Option ℕ
counting_rule sight index = increment_rule index (count_before (greatest_count sight.indices) index)

abbrev pub judged : Sight → Goal → Option Judged
judged sight (goals.Unseal object) =
    option_map (λ entry. record { found = object_at entry; rule = unseal_rule entry.public }) (object_of_handle sight object)
judged sight (goals.Hmac key buffer) =
    option_map (λ entry. record { found = object_at entry; rule = hmac_rule entry.public }) (object_of_handle sight key)
judged sight (goals.NvRead index size offset) =
    option_map (on_index codes.NvRead (λ entry. read_rule entry offset size)) (index_of_handle sight index)
judged sight (goals.NvWrite index offset bytes) =
    option_map (on_index codes.NvWrite (λ entry. write_rule entry offset (length bytes))) (index_of_handle sight index)
judged sight (goals.NvIncrement index) =
    option_map (on_index codes.NvIncrement (counting_rule sight)) (index_of_handle sight index)
judged sight (goals.Duplicate object parent) =
    option_map (λ entry. record { found = object_at entry; rule = duplicate_rule entry.public }) (object_of_handle sight object)

-- ---- the goal

-- the first deferred check that the session breaks on the goal
abbrev pub broken_check : Client → SessionState → EntityAt → Option Check
broken_check client session found =
    first_broken_check session (goal_use client found) (auth_policy_of found.entity) (proves client.grants found)

-- that a policy session may authorize it, and that this one does
abbrev pub authorization_block : Client → SessionState → EntityAt → Option Why
authorization_block client session found =
    or_else (unless (is_policy_available found.entity (number_of_code (code_of_goal client.goal))) (GoalRule (rc_of rc_auth_unavailable)))
    (option_map Deferred (broken_check client session found))

-- a rule of its own
abbrev pub own_block : Option ℕ → Option Why
own_block rule = option_map (λ code. GoalRule (rc_of code)) rule

abbrev pub judged_block : Client → SessionState → Option Judged → Option Why
judged_block client session None = Some NoEntity
judged_block client session (Some goal) =
    or_else (authorization_block client session goal.found) (own_block goal.rule)

-- a goal whose entity the sight does not show has no entity
abbrev pub goal_block : Client → SessionState → Option Why
goal_block client session = judged_block client session (judged client.sight client.goal)

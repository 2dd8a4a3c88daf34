-- PolicyDuplicationSelect (TPM 2.0 Part 3, TPM2_PolicyDuplicationSelect).
--   1  the slot is set, with any kind and value                         TPM_RC_CPHASH
--   2  a command code is set                                            TPM_RC_COMMAND_CODE
use Rattle.std.specs.Prelude.{ℕ, Bool, not, Option, None}
use Rattle.tpol_base.specs.declared.name.Name.{Name}
use Rattle.tpol_base.specs.ResponseCode.{rc_command_code, rc_cphash}
use Rattle.tpol_tree.specs.declared.closed.Assertion.TheVariants.{Duplication}
use Rattle.tpol_tree.specs.declared.facts.Fact.{Fact}
use Rattle.tpol_tree.specs.declared.path.Move.TheVariants.{Assert}
use Rattle.tpm_bindings.specs.Facts.{sets_code}
use Rattle.tpm_bindings.specs.Merged.{fact_of}
use Rattle.tpm_bindings.specs.State.{SessionState}
use Rattle.tpm_rules.specs.Rule.{or_else, unless}
use Rattle.tpm_rules.specs.Slot.{is_slot_set}

abbrev pub policy_duplication_select_rule : SessionState → Option ℕ
policy_duplication_select_rule session =
    or_else (unless (not (is_slot_set session.facts)) rc_cphash)
    (unless (not (sets_code session.facts)) rc_command_code)

-- what the session keeps of it: from then on the slot holds the nameHash of both Names, and the code is that
-- of Duplicate
abbrev pub policy_duplication_select_fact : ℕ → Name → Name → Bool → Fact
policy_duplication_select_fact event object parent include =
    fact_of event (Assert (Duplication object parent include)) None None

-- PolicyCommandCode (TPM 2.0 Part 3, TPM2_PolicyCommandCode).
--   1  another code was set                                             TPM_RC_VALUE, parameter 1
use Rattle.std.specs.Prelude.{ℕ, ◌+◌, Option, None}
use Rattle.tpol_base.specs.ResponseCode.{of_parameter, rc_value}
use Rattle.tpol_tree.specs.declared.closed.Assertion.TheVariants.{CommandCode}
use Rattle.tpol_tree.specs.declared.facts.Fact.{Fact}
use Rattle.tpol_tree.specs.declared.path.Move.TheVariants.{Assert}
use Rattle.tpm_bindings.specs.Facts.{every_code}
use Rattle.tpm_bindings.specs.Merged.{fact_of}
use Rattle.tpm_bindings.specs.State.{SessionState}
use Rattle.tpm_rules.specs.Rule.{unless}

abbrev pub policy_command_code_rule : SessionState → ℕ → Option ℕ
policy_command_code_rule session code = unless (every_code session.facts code) (rc_value + of_parameter 1)

-- what the session keeps of it
abbrev pub policy_command_code_fact : ℕ → ℕ → Fact
policy_command_code_fact event code = fact_of event (Assert (CommandCode code)) None None

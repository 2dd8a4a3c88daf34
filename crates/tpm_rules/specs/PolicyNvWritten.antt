-- PolicyNvWritten (TPM 2.0 Part 3, TPM2_PolicyNvWritten).
--   1  the other state was set                                          TPM_RC_VALUE, parameter 1
use Rattle.std.specs.Prelude.{ℕ, ◌+◌, Bool, Option, None}
use Rattle.tpol_base.specs.ResponseCode.{of_parameter, rc_value}
use Rattle.tpol_tree.specs.declared.closed.Assertion.TheVariants.{NvWritten}
use Rattle.tpol_tree.specs.declared.facts.Fact.{Fact}
use Rattle.tpol_tree.specs.declared.path.Move.TheVariants.{Assert}
use Rattle.tpm_bindings.specs.Facts.{every_written}
use Rattle.tpm_bindings.specs.Merged.{fact_of}
use Rattle.tpm_bindings.specs.State.{SessionState}
use Rattle.tpm_rules.specs.Rule.{unless}

abbrev pub policy_nv_written_rule : SessionState → Bool → Option ℕ
policy_nv_written_rule session written = unless (every_written session.facts written) (rc_value + of_parameter 1)

-- what the session keeps of it
abbrev pub policy_nv_written_fact : ℕ → Bool → Fact
policy_nv_written_fact event written = fact_of event (Assert (NvWritten written)) None None

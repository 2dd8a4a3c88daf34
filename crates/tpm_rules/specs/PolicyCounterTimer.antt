-- PolicyCounterTimer (TPM 2.0 Part 3, TPM2_PolicyCounterTimer).
--   1  the operand reaches past the end of the clock's bytes            TPM_RC_RANGE, parameter 1
--   2  the comparison does not hold                                     TPM_RC_POLICY
use Rattle.std.specs.Prelude.{ℕ, ◌+◌, List, length, nat_le, Option, None}
use Rattle.tpol_base.specs.declared.compare.Compare.{Compare}
use Rattle.tpol_base.specs.ResponseCode.{of_parameter, rc_policy, rc_range}
use Rattle.tpol_tree.specs.declared.closed.Assertion.TheVariants.{CounterTimer}
use Rattle.tpol_tree.specs.declared.facts.Fact.{Fact}
use Rattle.tpol_tree.specs.declared.path.Move.TheVariants.{Assert}
use Rattle.tpm_bindings.specs.Merged.{fact_of}
use Rattle.tpm_pcr.specs.Clock.{clock_info}
use Rattle.tpm_pcr.specs.declared.clock.Clock.{Clock}
use Rattle.tpm_rules.specs.PolicyNv.{compares}
use Rattle.tpm_rules.specs.Rule.{or_else, unless}

-- the clock has 25 bytes (TPM 2.0 Part 2, TPMS_TIME_INFO)
abbrev pub policy_counter_timer_rule : Clock → List ℕ → ℕ → Compare → Option ℕ
policy_counter_timer_rule clock operand offset operation =
    or_else (unless (nat_le (offset + length operand) 25) (rc_range + of_parameter 1))
    (unless (compares operation (clock_info clock) offset operand) rc_policy)

-- what the session keeps of it
abbrev pub policy_counter_timer_fact : ℕ → List ℕ → ℕ → Compare → Fact
policy_counter_timer_fact event operand offset operation =
    fact_of event (Assert (CounterTimer operand offset operation)) None None

-- PolicyNV (TPM 2.0 Part 3, TPM2_PolicyNV), behind the rule on authority over the index.
--   1  the index was never written                                      TPM_RC_NV_UNINITIALIZED
--   2  the offset is past the end of the index                          TPM_RC_VALUE, parameter 2
--   3  the operand reaches past the end of the index                    TPM_RC_SIZE, parameter 1
--   4  the comparison does not hold                                     TPM_RC_POLICY
use Rattle.std.specs.Prelude.{ℕ, ◌+◌, Bool, List, length, take, drop, nat_le, Option, None}
use Rattle.tpol_base.specs.declared.compare.Compare.{Compare}
use Rattle.tpol_base.specs.ResponseCode.{of_parameter, rc_nv_uninitialized, rc_policy, rc_size, rc_value}
use Rattle.tpol_name.specs.Areas.{index_name, is_written}
use Rattle.tpol_name.specs.declared.entries.IndexEntry.{IndexEntry}
use Rattle.tpol_tree.specs.declared.closed.Assertion.TheVariants.{Nv}
use Rattle.tpol_tree.specs.declared.facts.Fact.{Fact}
use Rattle.tpol_tree.specs.declared.path.Move.TheVariants.{Assert}
use Rattle.tpm_bindings.specs.Merged.{fact_of}
use Rattle.tpm_pcr.specs.Comparison.{holds}
use Rattle.tpm_rules.specs.Rule.{or_else, unless}

-- the bytes from an offset on, as many as the operand has, compared with it
abbrev pub compares : Compare → List ℕ → ℕ → List ℕ → Bool
compares operation bytes offset operand = holds operation (take (length operand) (drop offset bytes)) operand

abbrev pub policy_nv_rule : IndexEntry → List ℕ → ℕ → Compare → Option ℕ
policy_nv_rule entry operand offset operation =
    or_else (unless (is_written entry.public.attributes) rc_nv_uninitialized)
    (or_else (unless (nat_le offset entry.public.size) (rc_value + of_parameter 2))
    (or_else (unless (nat_le (offset + length operand) entry.public.size) (rc_size + of_parameter 1))
    (unless (compares operation entry.content offset operand) rc_policy)))

-- what the session keeps of it
abbrev pub policy_nv_fact : ℕ → IndexEntry → List ℕ → ℕ → Compare → Fact
policy_nv_fact event entry operand offset operation =
    fact_of event (Assert (Nv (index_name entry.public) operand offset operation)) None None

-- PolicyPCR (TPM 2.0 Part 3, TPM2_PolicyPCR).
--   1  a PCR was extended since the session's first PolicyPCR           TPM_RC_PCR_CHANGED
--   2  a digest is given and is not that of the selected PCRs           TPM_RC_VALUE, parameter 1
use Rattle.std.specs.Prelude.{ℕ, ◌+◌, Bool, true, [], Option, Some, None}
use Rattle.tpol_base.specs.declared.digest.Digest32.{Digest32}
use Rattle.tpol_base.specs.ResponseCode.{of_parameter, rc_pcr_changed, rc_value}
use Rattle.tpol_tree.specs.declared.closed.Assertion.TheVariants.{Pcr}
use Rattle.tpol_tree.specs.declared.facts.Fact.{Fact}
use Rattle.tpol_tree.specs.declared.path.Move.TheVariants.{Assert}
use Rattle.tpol_base.specs.Digest.{is_same_digest}
use Rattle.tpm_bindings.specs.Merged.{fact_of}
use Rattle.tpm_bindings.specs.State.{SessionState}
use Rattle.tpm_rules.specs.Rule.{or_else, unless}
use Rattle.tpm_rules.specs.Session.{is_counter_now}

-- whether a digest is this one, or is left out
abbrev pub is_digest_or_none : Digest32 → Option Digest32 → Bool
is_digest_or_none digest None = true
is_digest_or_none digest (Some given) = is_same_digest given digest

-- `counter` is the PCR counter, `selected` the digest of the selected PCRs as they are now
abbrev pub policy_pcr_rule : SessionState → ℕ → Digest32 → Option Digest32 → Option ℕ
policy_pcr_rule session counter selected given =
    or_else (unless (is_counter_now session.counter counter) rc_pcr_changed)
    (unless (is_digest_or_none selected given) (rc_value + of_parameter 1))

-- what the session keeps of it
abbrev pub policy_pcr_fact : ℕ → ℕ → Digest32 → Fact
policy_pcr_fact event mask selected = fact_of event (Assert (Pcr mask selected [])) None None

-- PolicyOR (TPM 2.0 Part 3, TPM2_PolicyOR).
--   1  the session's digest is not in the list                          TPM_RC_VALUE, parameter 1
use Rattle.std.specs.Prelude.{ℕ, ◌+◌, List, Option, None}
use Rattle.std.specs.List.{list_any}
use Rattle.tpol_base.specs.declared.digest.Digest32.{Digest32}
use Rattle.tpol_base.specs.ResponseCode.{of_parameter, rc_value}
use Rattle.tpol_tree.specs.declared.facts.Fact.{Fact}
use Rattle.tpol_tree.specs.declared.path.Move.TheVariants.{Or}
use Rattle.tpol_base.specs.Digest.{is_same_digest}
use Rattle.tpm_bindings.specs.Merged.{fact_of}
use Rattle.tpm_bindings.specs.State.{SessionState}
use Rattle.tpm_rules.specs.Rule.{unless}
use Rattle.tpm_rules.specs.Session.{policy_digest_of}

abbrev pub policy_or_rule : SessionState → List Digest32 → Option ℕ
policy_or_rule session digests =
    unless (list_any (is_same_digest (policy_digest_of session)) digests) (rc_value + of_parameter 1)

-- what the session keeps of it
abbrev pub policy_or_fact : ℕ → List Digest32 → Fact
policy_or_fact event digests = fact_of event (Or digests) None None

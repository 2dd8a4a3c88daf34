-- PolicyAuthorize (TPM 2.0 Part 3, TPM2_PolicyAuthorize).
--   1  the session's digest is not the approved one                     TPM_RC_VALUE, parameter 1
--   2  the ticket is not that of the approval's signature by the key    TPM_RC_VALUE, parameter 4
use Rattle.std.specs.Prelude.{ℕ, ◌+◌, Bool, List, ◌++◌, Option, None}
use Rattle.tpol_base.specs.declared.digest.Digest32.{Digest32}
use Rattle.tpol_base.specs.declared.name.Name.{Name}
use Rattle.tpol_base.specs.Digest.{zero_digest, is_same_digest}
use Rattle.tpol_base.specs.ResponseCode.{of_parameter, rc_value}
use Rattle.tpol_hash.specs.Sha256.{sha256_digest}
use Rattle.tpol_tree.specs.declared.facts.Fact.{Fact}
use Rattle.tpol_tree.specs.declared.path.Move.TheVariants.{Approve}
use Rattle.tpm_bindings.specs.Merged.{fact_of}
use Rattle.tpm_bindings.specs.State.{SessionState}
use Rattle.tpm_rules.specs.Rule.{or_else, unless}
use Rattle.tpm_rules.specs.Session.{policy_digest_of}

-- aHash, what the key has signed: H(approvedPolicy || policyRef)
abbrev pub approval_hash : Digest32 → List ℕ → Digest32
approval_hash approved policy_ref = sha256_digest (approved.bytes ++ policy_ref)

-- `right` says whether the ticket is right: its tag, its hierarchy and its digest
abbrev pub policy_authorize_rule : SessionState → Digest32 → Bool → Option ℕ
policy_authorize_rule session approved right =
    or_else (unless (is_same_digest (policy_digest_of session) approved) (rc_value + of_parameter 1))
    (unless right (rc_value + of_parameter 4))

-- what the session keeps of it
abbrev pub policy_authorize_fact : ℕ → Name → List ℕ → Digest32 → Fact
policy_authorize_fact event key policy_ref approved =
    fact_of event (Approve key policy_ref approved zero_digest) None None

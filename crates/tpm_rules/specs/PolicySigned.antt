-- PolicySigned (TPM 2.0 Part 3, TPM2_PolicySigned), behind the rule that the object is an HMAC key that may
-- sign.
--   1  a nonce is given and is not the session's                        TPM_RC_NONCE, parameter 1
--   2  the deadline has passed                                          TPM_RC_EXPIRED, parameter 4
--   3  the slot does not take the cpHashA                               TPM_RC_CPHASH
--   4  the signature is wrong                                           TPM_RC_SIGNATURE, parameter 5
use Rattle.std.specs.Prelude.{ℕ, ◌+◌, ℤ, Bool, List, Option}
use Rattle.tpol_base.specs.declared.digest.Digest32.{Digest32}
use Rattle.tpol_base.specs.declared.name.Name.{Name}
use Rattle.tpol_base.specs.ResponseCode.{of_parameter, rc_signature}
use Rattle.tpol_tree.specs.declared.closed.Assertion.TheVariants.{Signed}
use Rattle.tpol_tree.specs.declared.facts.Fact.{Fact}
use Rattle.tpol_tree.specs.declared.path.Move.TheVariants.{Assert}
use Rattle.tpm_bindings.specs.Merged.{fact_of}
use Rattle.tpm_bindings.specs.State.{SessionState}
use Rattle.tpm_rules.specs.Deadline.{deadline_of}
use Rattle.tpm_rules.specs.PolicySecret.{policy_secret_rule}
use Rattle.tpm_rules.specs.Rule.{or_else, unless}

-- `right` says whether the signature is right: the machine compares HMACs, who plans compares keys
abbrev pub policy_signed_rule : SessionState → ℕ → List ℕ → Option Digest32 → ℤ → Bool → Option ℕ
policy_signed_rule session time nonce cp_hash expiration right =
    or_else (policy_secret_rule session time nonce cp_hash expiration)
    (unless right (rc_signature + of_parameter 5))

-- what the session keeps of it
abbrev pub policy_signed_fact : ℕ → ℕ → Name → List ℕ → Option Digest32 → List ℕ → ℤ → Fact
policy_signed_fact event start key nonce cp_hash policy_ref expiration =
    fact_of event (Assert (Signed key policy_ref cp_hash expiration)) cp_hash (deadline_of start nonce expiration)

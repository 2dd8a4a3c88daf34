-- PolicySecret (TPM 2.0 Part 3, TPM2_PolicySecret), behind the authorization of the entity.
--   1  a nonce is given and is not the session's                        TPM_RC_NONCE, parameter 1
--   2  the deadline has passed                                          TPM_RC_EXPIRED, parameter 4
--   3  the slot does not take the cpHashA                               TPM_RC_CPHASH
use Rattle.std.specs.Prelude.{ℕ, ◌+◌, ℤ, List, Option}
use Rattle.tpol_base.specs.declared.digest.Digest32.{Digest32}
use Rattle.tpol_base.specs.declared.name.Name.{Name}
use Rattle.tpol_base.specs.ResponseCode.{of_parameter, rc_cphash, rc_expired, rc_nonce}
use Rattle.tpol_tree.specs.declared.closed.Assertion.TheVariants.{Secret}
use Rattle.tpol_tree.specs.declared.facts.Fact.{Fact}
use Rattle.tpol_tree.specs.declared.path.Move.TheVariants.{Assert}
use Rattle.tpm_bindings.specs.Merged.{fact_of}
use Rattle.tpm_bindings.specs.State.{SessionState}
use Rattle.tpm_bindings.specs.Facts.{is_before}
use Rattle.tpm_rules.specs.Deadline.{deadline_of, is_nonce_or_none}
use Rattle.tpm_rules.specs.Rule.{or_else, unless}
use Rattle.tpm_rules.specs.Slot.{takes_optional_cp_hash}

abbrev pub policy_secret_rule : SessionState → ℕ → List ℕ → Option Digest32 → ℤ → Option ℕ
policy_secret_rule session time nonce cp_hash expiration =
    or_else (unless (is_nonce_or_none session.nonce nonce) (rc_nonce + of_parameter 1))
    (or_else (unless (is_before time (deadline_of session.start nonce expiration)) (rc_expired + of_parameter 4))
    (unless (takes_optional_cp_hash session.facts cp_hash) rc_cphash))

-- what the session keeps of it
abbrev pub policy_secret_fact : ℕ → ℕ → Name → List ℕ → Option Digest32 → List ℕ → ℤ → Fact
policy_secret_fact event start entity nonce cp_hash policy_ref expiration =
    fact_of event (Assert (Secret entity policy_ref cp_hash expiration)) cp_hash (deadline_of start nonce expiration)

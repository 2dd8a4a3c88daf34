-- PolicyTicket (TPM 2.0 Part 3, TPM2_PolicyTicket): a ticket stands for the PolicySecret or PolicySigned that
-- answered it.
--   1  the ticket's time has passed                                     TPM_RC_EXPIRED, parameter 1
--   2  the slot does not take the cpHashA                               TPM_RC_CPHASH
--   3  the ticket is not one of this machine for these values           TPM_RC_TICKET, parameter 5
use Rattle.std.specs.Prelude.{ℕ, ◌+◌, ◌==◌, pos, Bool, List, nat_le, Option, Some, cond}
use Rattle.tpol_base.specs.declared.digest.Digest32.{Digest32}
use Rattle.tpol_base.specs.declared.name.Name.{Name}
use Rattle.tpol_base.specs.Constants.{st_auth_secret}
use Rattle.tpol_base.specs.ResponseCode.{of_parameter, rc_cphash, rc_expired, rc_ticket}
use Rattle.tpol_tree.specs.declared.closed.Assertion.{Assertion}
use Rattle.tpol_tree.specs.declared.closed.Assertion.TheVariants.{Secret, Signed}
use Rattle.tpol_tree.specs.declared.facts.Fact.{Fact}
use Rattle.tpol_tree.specs.declared.path.Move.TheVariants.{Assert}
use Rattle.tpm_bindings.specs.Merged.{fact_of}
use Rattle.tpm_bindings.specs.State.{SessionState}
use Rattle.tpm_rules.specs.Rule.{or_else, unless}
use Rattle.tpm_rules.specs.Slot.{takes_optional_cp_hash}

-- `right` says whether the ticket is right: its tag, its hierarchy and its digest
abbrev pub policy_ticket_rule : SessionState → ℕ → ℕ → Option Digest32 → Bool → Option ℕ
policy_ticket_rule session time deadline cp_hash right =
    or_else (unless (nat_le time deadline) (rc_expired + of_parameter 1))
    (or_else (unless (takes_optional_cp_hash session.facts cp_hash) rc_cphash)
    (unless right (rc_ticket + of_parameter 5)))

-- the assertion that a ticket of this tag stands for, which has no expiration of its own
abbrev pub assertion_of_ticket : ℕ → Name → List ℕ → Option Digest32 → Assertion
assertion_of_ticket tag key policy_ref cp_hash =
    cond (tag == st_auth_secret) (Secret key policy_ref cp_hash (pos 0)) (Signed key policy_ref cp_hash (pos 0))

-- what the session keeps of it
abbrev pub policy_ticket_fact : ℕ → ℕ → ℕ → Name → List ℕ → Option Digest32 → Fact
policy_ticket_fact event tag deadline key policy_ref cp_hash =
    fact_of event (Assert (assertion_of_ticket tag key policy_ref cp_hash)) cp_hash (Some deadline)

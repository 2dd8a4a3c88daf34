-- PolicyCpHash (TPM 2.0 Part 3, TPM2_PolicyCpHash).
--   1  the slot does not take the digest                                TPM_RC_CPHASH
use Rattle.std.specs.Prelude.{ℕ, Option, None}
use Rattle.tpol_base.specs.declared.digest.Digest32.{Digest32}
use Rattle.tpol_base.specs.ResponseCode.{rc_cphash}
use Rattle.tpol_tree.specs.declared.closed.Assertion.TheVariants.{CpHash}
use Rattle.tpol_tree.specs.declared.facts.Fact.{Fact}
use Rattle.tpol_tree.specs.declared.path.Move.TheVariants.{Assert}
use Rattle.tpm_bindings.specs.Merged.{fact_of}
use Rattle.tpm_bindings.specs.State.{SessionState}
use Rattle.tpm_rules.specs.Rule.{unless}
use Rattle.tpm_rules.specs.Slot.{takes_cp_hash}

abbrev pub policy_cp_hash_rule : SessionState → Digest32 → Option ℕ
policy_cp_hash_rule session digest = unless (takes_cp_hash session.facts digest) rc_cphash

-- what the session keeps of it
abbrev pub policy_cp_hash_fact : ℕ → Digest32 → Fact
policy_cp_hash_fact event digest = fact_of event (Assert (CpHash digest)) None None

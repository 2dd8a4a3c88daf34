-- PolicyAuthValue, PolicyPassword and PolicyPhysicalPresence (TPM 2.0 Part 3, TPM2_PolicyAuthValue,
-- TPM2_PolicyPassword and TPM2_PolicyPhysicalPresence). They have no rules; what the session keeps of them
-- is looked at when it is used.
use Rattle.std.specs.Prelude.{ℕ, None}
use Rattle.tpol_tree.specs.declared.closed.Assertion.TheVariants.{AuthValue, Password, PhysicalPresence}
use Rattle.tpol_tree.specs.declared.facts.Fact.{Fact}
use Rattle.tpol_tree.specs.declared.path.Move.TheVariants.{Assert}
use Rattle.tpm_bindings.specs.Merged.{fact_of}

abbrev pub policy_auth_value_fact : ℕ → Fact
policy_auth_value_fact event = fact_of event (Assert AuthValue) None None

abbrev pub policy_password_fact : ℕ → Fact
policy_password_fact event = fact_of event (Assert Password) None None

abbrev pub policy_physical_presence_fact : ℕ → Fact
policy_physical_presence_fact event = fact_of event (Assert PhysicalPresence) None None

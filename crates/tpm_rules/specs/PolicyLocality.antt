-- PolicyLocality (TPM 2.0 Part 3, TPM2_PolicyLocality), for the localities 0 to 4.
--   1  the set is empty or has others, or none that all earlier sets have  TPM_RC_RANGE, parameter 1
use Rattle.std.specs.Prelude.{ℕ, ◌+◌, ◌==◌, ◌&&◌, Bool, not, nat_le, bit_and, Option, None}
use Rattle.tpol_base.specs.ResponseCode.{of_parameter, rc_range}
use Rattle.tpol_tree.specs.declared.closed.Assertion.TheVariants.{Locality}
use Rattle.tpol_tree.specs.declared.facts.Fact.{Fact}
use Rattle.tpol_tree.specs.declared.path.Move.TheVariants.{Assert}
use Rattle.tpm_bindings.specs.Facts.{common_localities, moves_of}
use Rattle.tpm_bindings.specs.Merged.{fact_of}
use Rattle.tpm_bindings.specs.State.{SessionState}
use Rattle.tpm_rules.specs.Rule.{unless}

-- a set of localities: bit n for locality n, at least one of 0 to 4 and no other
abbrev pub is_locality_set : ℕ → Bool
is_locality_set localities = nat_le 1 localities && nat_le localities 31

-- whether a set shares a locality with all earlier sets
abbrev pub shares_locality : SessionState → ℕ → Bool
shares_locality session localities = not (bit_and localities (common_localities (moves_of session.facts)) == 0)

abbrev pub policy_locality_rule : SessionState → ℕ → Option ℕ
policy_locality_rule session localities =
    unless (is_locality_set localities && shares_locality session localities) (rc_range + of_parameter 1)

-- what the session keeps of it
abbrev pub policy_locality_fact : ℕ → ℕ → Fact
policy_locality_fact event localities = fact_of event (Assert (Locality localities)) None None

-- What rules read of a policy session besides its facts.
use Rattle.std.specs.Prelude.{ℕ, ◌==◌, Bool, true, Option, Some, None}
use Rattle.tpol_base.specs.declared.digest.Digest32.{Digest32}
use Rattle.tpol_digest.specs.Digest.{digest_of_moves}
use Rattle.tpol_tree.specs.Facts.{moves_of}
use Rattle.tpm_bindings.specs.State.{SessionState}

-- its policyDigest
abbrev pub policy_digest_of : SessionState → Digest32
policy_digest_of session = digest_of_moves (moves_of session.facts)

-- whether no PCR was extended since its first PolicyPCR: the PCR counter is the one that this found
abbrev pub is_counter_now : Option ℕ → ℕ → Bool
is_counter_now None counter = true
is_counter_now (Some first) counter = first == counter

-- A path's moves as the facts that a machine keeps of them.
use Rattle.std.specs.Prelude.{ℕ, List, [], ◌∷◌, ◌++◌, Option, Some, None, fold, if◌then◌else◌}
use Rattle.tpol_base.specs.declared.digest.Digest32.{Digest32}
use Rattle.tpol_base.specs.declared.name.Name.{Name}
use Rattle.tpol_name.specs.declared.sight.Sight.{Sight}
use Rattle.tpol_tree.specs.declared.closed.Assertion.{Assertion}
use Rattle.tpol_tree.specs.declared.closed.Assertion.TheVariants.{Secret, Signed}
use Rattle.tpol_tree.specs.declared.facts.Fact.{Fact}
use Rattle.tpol_tree.specs.declared.path.Move.{Move}
use Rattle.tpol_tree.specs.declared.path.Move.TheVariants.{Assert}
use Rattle.tpol_digest.specs.Digest.{zero_digest}
use Rattle.tpm_bindings.specs.Facts.{is_pcr}
use Rattle.tpm_bindings.specs.Merged.{fact_of}
use Rattle.tpm_bindings.specs.State.{SessionState}
use Rattle.tpm_rules.specs.Deadline.{deadline_of}
use Rattle.tpm_rules.specs.PolicySecret.{policy_secret_fact}
use Rattle.tpm_rules.specs.PolicySigned.{policy_signed_fact}
use Rattle.tpol_choose.specs.Entities.{EntityAt, entity_of_name, name_as_is}

-- the session that a path would begin with: it starts now, and rules look at its nonce only where a command
-- carries another one
abbrev pub fresh_session : Sight → SessionState
fresh_session sight = record { start = sight.time; nonce = zero_digest; facts = []; counter = None }

-- the Name that a machine keeps of PolicySecret: the one that the entity has as it is
abbrev pub name_of_found : Name → Option EntityAt → Name
name_of_found name None = name
name_of_found name (Some found) = name_as_is found.handle found.entity

abbrev pub name_in_fact : Sight → Name → Name
name_in_fact sight name = name_of_found name (entity_of_name sight name)

-- the fact of an assertion; PolicySecret and PolicySigned carry the session's nonce. No rule looks at the event
abbrev pub fact_of_assertion : Sight → SessionState → Assertion → Fact
fact_of_assertion sight session (Secret entity policy_ref cp_hash expiration) =
    policy_secret_fact 0 session.start (name_in_fact sight entity) session.nonce.bytes cp_hash policy_ref expiration
fact_of_assertion sight session (Signed key policy_ref cp_hash expiration) =
    policy_signed_fact 0 session.start key session.nonce.bytes cp_hash policy_ref expiration
fact_of_assertion sight session assertion = fact_of 0 (Assert assertion) None None

abbrev pub fact_of_move : Sight → SessionState → Move → Fact
fact_of_move sight session (Assert assertion) = fact_of_assertion sight session assertion
fact_of_move sight session act = fact_of 0 act None None

-- its cpHashA and its deadline
abbrev pub cp_hash_of : Move → Option Digest32
cp_hash_of (Assert (Secret entity policy_ref cp_hash expiration)) = cp_hash
cp_hash_of (Assert (Signed key policy_ref cp_hash expiration)) = cp_hash
cp_hash_of _ = None

abbrev pub deadline_of_move : ℕ → Digest32 → Move → Option ℕ
deadline_of_move start nonce (Assert (Secret entity policy_ref cp_hash expiration)) = deadline_of start nonce.bytes expiration
deadline_of_move start nonce (Assert (Signed key policy_ref cp_hash expiration)) = deadline_of start nonce.bytes expiration
deadline_of_move start nonce _ = None

-- the PCR counter that the first PolicyPCR found
abbrev pub counter_after : ℕ → Option ℕ → Move → Option ℕ
counter_after now (Some first) act = Some first
counter_after now None act = if is_pcr act then Some now else None

-- the session with the fact of one more move
abbrev pub session_after : Sight → SessionState → Move → SessionState
session_after sight session act = record {
  start = session.start;
  nonce = session.nonce;
  facts = session.facts ++ fact_of_move sight session act ∷ [];
  counter = counter_after sight.pcr_counter session.counter act;
}

-- the same of moves in a row
abbrev pub session_along : Sight → SessionState → List Move → SessionState
session_along sight session moves = fold (session_after sight) session moves

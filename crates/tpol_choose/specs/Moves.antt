-- What stands in the way of one move: an entity that is not there, a key that is not granted, or the answer of
-- the machine to the move's command, by the rules of its authorization and by its own, over the earlier moves
-- as facts (TPM 2.0 Part 3, under each command's name).
use Rattle.std.specs.Prelude.{ℕ, ℤ, ◌==◌, Bool, true, List, Option, Some, None, option_map, if◌then◌else◌}
use Rattle.std.specs.Str.{bytes_eq}
use Rattle.tpm_auth.specs.Signatures.{signature_of}
use Rattle.tpm_bindings.specs.State.{SessionState}
use Rattle.tpm_pcr.specs.declared.clock.Clock.{Clock}
use Rattle.tpm_pcr.specs.Pcrs.{selection_digest}
use Rattle.tpm_rules.specs.declared.outcome.Denial.{Denial}
use Rattle.tpm_rules.specs.declared.outcome.Denial.TheVariants.{Unavailable, Password as WrongPassword, Deferred}
use Rattle.tpm_rules.specs.Checks.{code_of_check}
use Rattle.tpm_rules.specs.Entity.{Entity}
use Rattle.tpm_rules.specs.NvAuthority.{nv_authority_rule}
use Rattle.tpm_rules.specs.Objects.{signing_key_rule, verify_signature_rule}
use Rattle.tpm_rules.specs.Password.{password_denial, unavailable_password_code, wrong_password_code}
use Rattle.tpm_rules.specs.PolicyAuthorize.{approval_hash, policy_authorize_rule}
use Rattle.tpm_rules.specs.PolicyAuthorizeNv.{policy_authorize_nv_rule}
use Rattle.tpm_rules.specs.PolicyCommandCode.{policy_command_code_rule}
use Rattle.tpm_rules.specs.PolicyCounterTimer.{policy_counter_timer_rule}
use Rattle.tpm_rules.specs.PolicyCpHash.{policy_cp_hash_rule}
use Rattle.tpm_rules.specs.PolicyDuplicationSelect.{policy_duplication_select_rule}
use Rattle.tpm_rules.specs.PolicyLocality.{policy_locality_rule}
use Rattle.tpm_rules.specs.PolicyNameHash.{policy_name_hash_rule}
use Rattle.tpm_rules.specs.PolicyNv.{policy_nv_rule}
use Rattle.tpm_rules.specs.PolicyNvWritten.{policy_nv_written_rule}
use Rattle.tpm_rules.specs.PolicyOr.{policy_or_rule}
use Rattle.tpm_rules.specs.PolicyPcr.{policy_pcr_rule}
use Rattle.tpm_rules.specs.PolicySecret.{policy_secret_rule}
use Rattle.tpm_rules.specs.PolicySigned.{policy_signed_rule}
use Rattle.tpm_rules.specs.Rule.{or_else}
use Rattle.tpol_base.specs.declared.command_code.CommandCode.{CommandCode}
use Rattle.tpol_base.specs.declared.command_code.CommandCode.TheVariants as codes
use Rattle.tpol_base.specs.declared.compare.Compare.{Compare}
use Rattle.tpol_base.specs.declared.digest.Digest32.{Digest32}
use Rattle.tpol_base.specs.declared.rc.Rc.{Rc}
use Rattle.tpol_base.specs.CommandCode.{number_of_code}
use Rattle.tpol_choose.specs.declared.block.Why.{Why}
use Rattle.tpol_choose.specs.declared.block.Why.TheVariants.{NoEntity, NoKey, Answer}
use Rattle.tpol_choose.specs.Clients.{Client}
use Rattle.tpol_choose.specs.Entities.{EntityAt, entity_of_name, hierarchy_at, index_at}
use Rattle.tpol_choose.specs.Keys.{is_same_block}
use Rattle.tpol_goal.specs.declared.grants.Grants.{Grants}
use Rattle.tpol_goal.specs.Entities.{index_in_sight, object_in_sight}
use Rattle.tpol_goal.specs.Grants.{authority, granted, secret_of}
use Rattle.tpol_name.specs.declared.entries.IndexEntry.{IndexEntry}
use Rattle.tpol_name.specs.declared.entries.ObjectEntry.{ObjectEntry}
use Rattle.tpol_name.specs.declared.sight.Sight.{Sight}
use Rattle.tpol_tree.specs.declared.closed.Assertion.{Assertion}
use Rattle.tpol_tree.specs.declared.closed.Assertion.TheVariants as assertions
use Rattle.tpol_tree.specs.declared.path.Move.{Move}
use Rattle.tpol_tree.specs.declared.path.Move.TheVariants.{Assert, Or, Approve, ApproveNv}

-- the machine's answer by a rule that is broken
abbrev pub rc_of : ℕ → Rc
rc_of code = record { code = code }

abbrev pub answered : Option ℕ → Option Why
answered rule = option_map (λ code. Answer (rc_of code)) rule

-- ---- authorization by password

abbrev pub code_of_denial : Entity → CommandCode → Denial → ℕ
code_of_denial entity code Unavailable = unavailable_password_code (number_of_code code)
code_of_denial entity code WrongPassword = wrong_password_code entity
code_of_denial entity code (Deferred check) = code_of_check check

-- with the value that is granted for the entity
abbrev pub password_rule : Grants → EntityAt → CommandCode → Option ℕ
password_rule grants found code =
    option_map (code_of_denial found.entity code)
    (password_denial found.entity (number_of_code code) (secret_of grants.secrets found.handle))

-- ---- the commands on an index

-- what authorizes the reading of an index: the index itself, or the owner
abbrev pub authority_at : Sight → IndexEntry → ℕ → EntityAt
authority_at sight index handle = if handle == index.public.index then index_at index else hierarchy_at sight handle

abbrev pub reader_of : Client → IndexEntry → EntityAt
reader_of client index =
    authority_at client.sight index (authority client.grants index.public.index index.public.attributes)

-- its authorization, its authority over the index, and then the command's own rules
abbrev pub reading_rule : Client → IndexEntry → CommandCode → Option ℕ → Option ℕ
reading_rule client index code own =
    or_else (password_rule client.grants (reader_of client index) code)
    (or_else (nv_authority_rule (reader_of client index).handle index.public (number_of_code code)) own)

abbrev pub index_block : Client → CommandCode → (IndexEntry → Option ℕ) → Option IndexEntry → Option Why
index_block client code own None = Some NoEntity
index_block client code own (Some index) = answered (reading_rule client index code (own index))

-- ---- PolicySecret

abbrev pub secret_block : Client → SessionState → Option Digest32 → ℤ → Option EntityAt → Option Why
secret_block client session cp_hash expiration None = Some NoEntity
secret_block client session cp_hash expiration (Some found) =
    answered (or_else (password_rule client.grants found codes.PolicySecret)
    (policy_secret_rule session client.sight.time session.nonce.bytes cp_hash expiration))

-- ---- PolicySigned, signed with the key that is granted

abbrev pub signing_block : Client → SessionState → Option Digest32 → ℤ → ObjectEntry → Option (List ℕ) → Option Why
signing_block client session cp_hash expiration object None = Some NoKey
signing_block client session cp_hash expiration object (Some key) =
    answered (or_else (signing_key_rule object.public)
    (policy_signed_rule session client.sight.time session.nonce.bytes cp_hash expiration (is_same_block key object.secret)))

abbrev pub signed_block : Client → SessionState → Option Digest32 → ℤ → Option ObjectEntry → Option Why
signed_block client session cp_hash expiration None = Some NoEntity
signed_block client session cp_hash expiration (Some object) =
    signing_block client session cp_hash expiration object (granted client.grants.keys object.handle)

-- ---- PolicyAuthorize, behind VerifySignature of the approval, which makes the ticket

abbrev pub is_approved_by : ObjectEntry → List ℕ → Digest32 → Digest32 → Bool
is_approved_by object policy_ref approved signature =
    bytes_eq signature.bytes (signature_of object.secret (approval_hash approved policy_ref)).bytes

abbrev pub approve_block : SessionState → List ℕ → Digest32 → Digest32 → Option ObjectEntry → Option Why
approve_block session policy_ref approved signature None = Some NoEntity
approve_block session policy_ref approved signature (Some object) =
    answered (or_else (verify_signature_rule object.public (is_approved_by object policy_ref approved signature))
    (policy_authorize_rule session approved true))

-- ---- the clock of a sight

abbrev pub clock_of : Sight → Clock
clock_of sight = record {
  time = sight.time;
  reset_count = sight.reset_count;
  restart_count = sight.restart_count;
  safe = sight.safe;
}

-- ---- each kind

abbrev pub pcr_block : Sight → SessionState → ℕ → Digest32 → Option Why
pcr_block sight session mask pcr_digest =
    answered (policy_pcr_rule session sight.pcr_counter (selection_digest sight.pcrs mask) (Some pcr_digest))

abbrev pub counter_timer_block : Sight → List ℕ → ℕ → Compare → Option Why
counter_timer_block sight operand offset operation =
    answered (policy_counter_timer_rule (clock_of sight) operand offset operation)

-- an assertion that only looks at the session; PolicyAuthValue, PolicyPassword and PolicyPhysicalPresence are
-- never refused
abbrev pub plain_block : SessionState → Assertion → Option Why
plain_block session (assertions.CommandCode code) = answered (policy_command_code_rule session code)
plain_block session (assertions.Locality localities) = answered (policy_locality_rule session localities)
plain_block session (assertions.CpHash digest) = answered (policy_cp_hash_rule session digest)
plain_block session (assertions.NameHash digest) = answered (policy_name_hash_rule session digest)
plain_block session (assertions.NvWritten written) = answered (policy_nv_written_rule session written)
plain_block session (assertions.Duplication object parent include) =
    answered (policy_duplication_select_rule session)
plain_block session assertion = None

abbrev pub assertion_block : Client → SessionState → Assertion → Option Why
assertion_block client session (assertions.Pcr mask pcr_digest values) =
    pcr_block client.sight session mask pcr_digest
assertion_block client session (assertions.Nv index operand offset operation) =
    index_block client codes.PolicyNv (λ entry. policy_nv_rule entry operand offset operation)
    (index_in_sight client.sight index)
assertion_block client session (assertions.Secret entity policy_ref cp_hash expiration) =
    secret_block client session cp_hash expiration (entity_of_name client.sight entity)
assertion_block client session (assertions.Signed key policy_ref cp_hash expiration) =
    signed_block client session cp_hash expiration (object_in_sight client.sight key)
assertion_block client session (assertions.CounterTimer operand offset operation) =
    counter_timer_block client.sight operand offset operation
assertion_block client session assertion = plain_block session assertion

abbrev pub move_block : Client → SessionState → Move → Option Why
move_block client session (Assert assertion) = assertion_block client session assertion
move_block client session (Or digests) = answered (policy_or_rule session digests)
move_block client session (Approve key policy_ref approved signature) =
    approve_block session policy_ref approved signature (object_in_sight client.sight key)
move_block client session (ApproveNv index approved) =
    index_block client codes.PolicyAuthorizeNv (policy_authorize_nv_rule session) (index_in_sight client.sight index)

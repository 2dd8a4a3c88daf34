-- The commands of a run, but for the goal's (TPM 2.0 Part 3, under each name).
use Rattle.std.specs.Prelude.{ℕ, ℤ, List, [], ◌++◌, Option, Some, None, option_map, unwrap_or}
use Rattle.std.specs.Int.{to_be_bytes, w32}
use Rattle.tpm_auth.specs.Signatures.{signature_of, signed_hash}
use Rattle.tpol_base.specs.declared.compare.Compare.{Compare}
use Rattle.tpol_base.specs.declared.digest.Digest32.{Digest32}
use Rattle.tpol_base.specs.declared.name.Name.{Name}
use Rattle.tpol_base.specs.Digest.{optional_bytes}
use Rattle.tpol_base.specs.Handle.{rh_null, rs_pw}
use Rattle.tpol_driver.specs.declared.session.Session.{Session}
use Rattle.tpol_goal.specs.declared.grants.Grants.{Grants}
use Rattle.tpol_goal.specs.Entities.{entity_of_name, index_of_name, object_of_name}
use Rattle.tpol_goal.specs.Grants.{authority, granted, secret_of}
use Rattle.tpol_hash.specs.Sha256.{sha256_digest}
use Rattle.tpol_name.specs.declared.entries.DirEntry.{DirEntry}
use Rattle.tpol_tree.specs.declared.closed.Assertion.{Assertion}
use Rattle.tpol_tree.specs.declared.closed.Assertion.TheVariants as assertions
use Rattle.tpol_tree.specs.declared.path.Move.{Move}
use Rattle.tpol_tree.specs.declared.path.Move.TheVariants.{Assert, Or, Approve, ApproveNv}
use Rattle.tpol_wire.specs.declared.auth_area.AuthArea.{AuthArea}
use Rattle.tpol_wire.specs.declared.command.Command.{Command}
use Rattle.tpol_wire.specs.declared.command.Command.TheVariants as commands
use Rattle.tpol_fields.specs.declared.ticket.Ticket.{Ticket}

-- the nonce of the caller of the command with this number, from 0: H(seed || number)
abbrev pub caller_nonce : Digest32 → ℕ → Digest32
caller_nonce seed number = sha256_digest (seed.bytes ++ to_be_bytes w32 number)

-- the start of a session that is neither salted nor bound
abbrev pub start_command : Digest32 → Command
start_command seed = commands.StartAuthSession rh_null rh_null (caller_nonce seed 0)

-- ---- handles; a complete plan has a handle for each Name, and what has none is the null hierarchy

abbrev pub or_null : Option ℕ → ℕ
or_null handle = unwrap_or handle rh_null

abbrev pub entity_handle : List DirEntry → Name → ℕ
entity_handle directory name = or_null (entity_of_name directory name)

abbrev pub key_handle : List DirEntry → Name → ℕ
key_handle directory name = or_null (option_map (λ entry. entry.handle) (object_of_name directory name))

abbrev pub index_handle : List DirEntry → Name → ℕ
index_handle directory name = or_null (option_map (λ entry. entry.handle) (index_of_name directory name))

-- what authorizes the reading of an index: the index itself or the owner
abbrev pub index_authority : List DirEntry → Grants → Name → ℕ
index_authority directory grants name =
    or_null (option_map (λ entry. authority grants entry.handle entry.attributes) (index_of_name directory name))

-- ---- authorizations

-- an authorization by password, with the value that is granted for the entity
abbrev pub password_area : Grants → ℕ → AuthArea
password_area grants entity =
    record { session = rs_pw; nonce = []; attributes = 1; hmac = secret_of grants.secrets entity }

-- the key that is granted for an object, empty where none is
abbrev pub key_of : Grants → ℕ → List ℕ
key_of grants handle = unwrap_or (granted grants.keys handle) []

-- ---- one command of a kind of move

abbrev pub policy_nv : List DirEntry → Grants → Session → Name → List ℕ → ℕ → Compare → Command
policy_nv directory grants session index operand offset operation =
    commands.PolicyNv (index_authority directory grants index) (index_handle directory index) session.handle
    (password_area grants (index_authority directory grants index)) operand offset operation

abbrev pub policy_secret : List DirEntry → Grants → Session → Name → List ℕ → Option Digest32 → ℤ → Command
policy_secret directory grants session entity policy_ref cp_hash expiration =
    commands.PolicySecret (entity_handle directory entity) session.handle
    (password_area grants (entity_handle directory entity)) session.nonce.bytes cp_hash policy_ref expiration

-- signed over the session's nonce with the key that is granted
abbrev pub policy_signed : List DirEntry → Grants → Session → Name → List ℕ → Option Digest32 → ℤ → Command
policy_signed directory grants session key policy_ref cp_hash expiration =
    commands.PolicySigned (key_handle directory key) session.handle session.nonce.bytes cp_hash policy_ref expiration
    (signature_of (key_of grants (key_handle directory key))
    (signed_hash session.nonce.bytes expiration (optional_bytes cp_hash) policy_ref))

-- the ticket of an approval is asked for with the approved digest and the policyRef: H(approved || policyRef)
abbrev pub verify_signature : List DirEntry → Name → List ℕ → Digest32 → Digest32 → Command
verify_signature directory key policy_ref approved signature =
    commands.VerifySignature (key_handle directory key) (sha256_digest (approved.bytes ++ policy_ref)) signature

abbrev pub policy_authorize_nv : List DirEntry → Grants → Session → Name → Command
policy_authorize_nv directory grants session index =
    commands.PolicyAuthorizeNv (index_authority directory grants index) (index_handle directory index) session.handle
    (password_area grants (index_authority directory grants index))

abbrev pub command_of_assertion : List DirEntry → Grants → Session → Assertion → Command
command_of_assertion directory grants session (assertions.Pcr mask pcr_digest values) =
    commands.PolicyPcr session.handle (Some pcr_digest) mask
command_of_assertion directory grants session (assertions.Nv index operand offset operation) =
    policy_nv directory grants session index operand offset operation
command_of_assertion directory grants session (assertions.Secret entity policy_ref cp_hash expiration) =
    policy_secret directory grants session entity policy_ref cp_hash expiration
command_of_assertion directory grants session (assertions.Signed key policy_ref cp_hash expiration) =
    policy_signed directory grants session key policy_ref cp_hash expiration
command_of_assertion directory grants session (assertions.CounterTimer operand offset operation) =
    commands.PolicyCounterTimer session.handle operand offset operation
command_of_assertion directory grants session (assertions.CommandCode code) =
    commands.PolicyCommandCode session.handle code
command_of_assertion directory grants session (assertions.Locality locality) =
    commands.PolicyLocality session.handle locality
command_of_assertion directory grants session (assertions.CpHash digest) =
    commands.PolicyCpHash session.handle digest
command_of_assertion directory grants session (assertions.NameHash digest) =
    commands.PolicyNameHash session.handle digest
command_of_assertion directory grants session (assertions.NvWritten written) =
    commands.PolicyNvWritten session.handle written
command_of_assertion directory grants session assertions.AuthValue = commands.PolicyAuthValue session.handle
command_of_assertion directory grants session assertions.Password = commands.PolicyPassword session.handle
command_of_assertion directory grants session assertions.PhysicalPresence =
    commands.PolicyPhysicalPresence session.handle
command_of_assertion directory grants session (assertions.Duplication object parent include) =
    commands.PolicyDuplicationSelect session.handle object parent include

-- an approval by a key needs a ticket: without one it is VerifySignature that is sent, and with its ticket
-- PolicyAuthorize
abbrev pub approval_command : List DirEntry → Session → Option Ticket → Name → List ℕ → Digest32 → Digest32 → Command
approval_command directory session None key policy_ref approved signature =
    verify_signature directory key policy_ref approved signature
approval_command directory session (Some ticket) key policy_ref approved signature =
    commands.PolicyAuthorize session.handle approved policy_ref key ticket

-- the next command of a move, after the ticket that was answered, if any
abbrev pub command_of_move : List DirEntry → Grants → Session → Option Ticket → Move → Command
command_of_move directory grants session ticket (Assert assertion) =
    command_of_assertion directory grants session assertion
command_of_move directory grants session ticket (Or digests) = commands.PolicyOr session.handle digests
command_of_move directory grants session ticket (Approve key policy_ref approved signature) =
    approval_command directory session ticket key policy_ref approved signature
command_of_move directory grants session ticket (ApproveNv index approved) =
    policy_authorize_nv directory grants session index

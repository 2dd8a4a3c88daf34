-- The policy commands over the tables: the rules of each on its session, and its reply (TPM 2.0 Part 3,
-- "Enhanced Authorization Commands").
use Rattle.std.specs.Prelude.{ℕ, ℤ, pos, ◌==◌, ◌&&◌, Bool, true, false, List, [], Option, Some, None, int_lt, option_and_then, if◌then◌else◌}
use Rattle.std.specs.Option.{option_map_or}
use Rattle.tpol_base.specs.declared.command_code.CommandCode.TheVariants as codes
use Rattle.tpol_base.specs.declared.compare.Compare.{Compare}
use Rattle.tpol_base.specs.declared.digest.Digest32.{Digest32}
use Rattle.tpol_base.specs.declared.name.Name.{Name}
use Rattle.tpol_base.specs.CommandCode.{number_of_code}
use Rattle.tpol_base.specs.Constants.{st_auth_secret, st_auth_signed, st_verified}
use Rattle.tpol_base.specs.Digest.{optional_bytes}
use Rattle.tpol_base.specs.Handle.{rh_null, rh_owner}
use Rattle.tpol_base.specs.ResponseCode.{rc_reference_h0}
use Rattle.tpol_wire.specs.declared.command.Command.{Command}
use Rattle.tpol_wire.specs.declared.command.Command.TheVariants as commands
use Rattle.tpol_wire.specs.declared.reply.Reply.{Reply}
use Rattle.tpol_wire.specs.declared.reply.Reply.TheVariants as replies
use Rattle.tpol_fields.specs.declared.ticket.Ticket.{Ticket}
use Rattle.tpm_auth.specs.Tickets.{auth_ticket}
use Rattle.tpm_bindings.specs.State.{SessionState}
use Rattle.tpm_pcr.specs.Pcrs.{selection_digest}
use Rattle.tpm_policy.specs.Judgments.{is_approval_ticket, is_auth_ticket, is_signature}
use Rattle.tpm_rules.specs.Deadline.{deadline_of}
use Rattle.tpm_rules.specs.NvAuthority.{nv_authority_rule}
use Rattle.tpm_rules.specs.Objects.{signing_key_rule}
use Rattle.tpm_rules.specs.PolicyAuthorize.{policy_authorize_rule}
use Rattle.tpm_rules.specs.PolicyAuthorizeNv.{policy_authorize_nv_rule}
use Rattle.tpm_rules.specs.PolicyCommandCode.{policy_command_code_rule}
use Rattle.tpm_rules.specs.PolicyCounterTimer.{policy_counter_timer_rule}
use Rattle.tpm_rules.specs.PolicyCpHash.{policy_cp_hash_rule}
use Rattle.tpm_rules.specs.PolicyDuplicationSelect.{policy_duplication_select_rule}
use Rattle.tpm_rules.specs.PolicyLocality.{policy_locality_rule}
use Rattle.tpm_rules.specs.PolicyNameHash.{policy_name_hash_rule}
use Rattle.tpm_rules.specs.PolicyNv.{policy_nv_rule}
use Rattle.tpm_rules.specs.PolicyNvWritten.{policy_nv_written_rule}
use Rattle.tpm_rules.specs.PolicyOr.{policy_or_rule}
use Rattle.tpm_rules.specs.PolicyPcr.{policy_pcr_rule}
use Rattle.tpm_rules.specs.PolicySecret.{policy_secret_rule}
use Rattle.tpm_rules.specs.PolicySigned.{policy_signed_rule}
use Rattle.tpm_rules.specs.PolicyTicket.{policy_ticket_rule}
use Rattle.tpm_rules.specs.Rule.{or_else}
use Rattle.tpm_session.specs.Slots.{state_at}
use Rattle.tpm_world.specs.Entities.{name_at}
use Rattle.tpol_wire.specs.Handles.{policy_session_of}
use Rattle.tpm_world.specs.Hashes.{proof_of}
use Rattle.tpm_world.specs.Missing.{rule_of_index, rule_of_object}
use Rattle.tpm_world.specs.World.{WorldState, clock_of}
use Rattle.tpm_engine.specs.Tables.{TableState}

-- ---- rules

-- PolicyNV, with the rule on authority over the index
abbrev pub nv_rule : WorldState → ℕ → ℕ → List ℕ → ℕ → Compare → Option ℕ
nv_rule world authority index operand offset operation =
    rule_of_index world index (λ entry. or_else
    (nv_authority_rule authority entry.public (number_of_code codes.PolicyNv))
    (policy_nv_rule entry operand offset operation))

-- PolicyAuthorizeNV, with the same
abbrev pub authorize_nv_rule : WorldState → SessionState → ℕ → ℕ → Option ℕ
authorize_nv_rule world session authority index =
    rule_of_index world index (λ entry. or_else
    (nv_authority_rule authority entry.public (number_of_code codes.PolicyAuthorizeNv))
    (policy_authorize_nv_rule session entry))

-- PolicyPCR, over the PCRs as they are now
abbrev pub pcr_rule : WorldState → SessionState → Option Digest32 → ℕ → Option ℕ
pcr_rule world session given mask = policy_pcr_rule session world.pcrs.counter (selection_digest world.pcrs.values mask) given

-- PolicySigned, with the rule that the object is an HMAC key that may sign
abbrev pub signed_rule : WorldState → SessionState → ℕ → List ℕ → Option Digest32 → List ℕ → ℤ → Digest32 → Option ℕ
signed_rule world session key nonce cp_hash policy_ref expiration signature =
    rule_of_object world key (λ object. or_else
    (signing_key_rule object.public)
    (policy_signed_rule session world.time nonce cp_hash expiration
    (is_signature object.secret nonce expiration cp_hash policy_ref signature)))

-- PolicyTicket, with a ticket of this machine
abbrev pub ticket_rule : WorldState → SessionState → ℕ → Option Digest32 → List ℕ → Name → Ticket → Option ℕ
ticket_rule world session timeout cp_hash policy_ref key ticket =
    policy_ticket_rule session world.time timeout cp_hash
    (is_auth_ticket (proof_of world.seed) world.reset_count timeout cp_hash policy_ref key ticket.tag ticket.hierarchy ticket.digest)

-- the digest of a ticket of VerifySignature in the owner hierarchy; any other has none that counts
abbrev pub verified_digest : Ticket → List ℕ
verified_digest ticket = if ticket.tag == st_verified && ticket.hierarchy == rh_owner then ticket.digest else []

-- PolicyAuthorize, with such a ticket of this machine for the approval by the key
abbrev pub authorize_rule : WorldState → SessionState → Digest32 → List ℕ → Name → Ticket → Option ℕ
authorize_rule world session approved policy_ref key ticket =
    policy_authorize_rule session approved (is_approval_ticket (proof_of world.seed) approved policy_ref key (verified_digest ticket))

-- the first rule that a policy command breaks on a session in this state, behind its authorization
abbrev pub policy_rule : WorldState → SessionState → Command → Option ℕ
policy_rule world session (commands.PolicyNv authority index own auth operand offset operation) = nv_rule world authority index operand offset operation
policy_rule world session (commands.PolicyCpHash own digest) = policy_cp_hash_rule session digest
policy_rule world session (commands.PolicyNameHash own digest) = policy_name_hash_rule session digest
policy_rule world session (commands.PolicyCommandCode own code) = policy_command_code_rule session code
policy_rule world session (commands.PolicyCounterTimer own operand offset operation) = policy_counter_timer_rule (clock_of world) operand offset operation
policy_rule world session (commands.PolicyLocality own locality) = policy_locality_rule session locality
policy_rule world session (commands.PolicyPcr own given mask) = pcr_rule world session given mask
policy_rule world session (commands.PolicyDuplicationSelect own object parent include) = policy_duplication_select_rule session
policy_rule world session (commands.PolicyNvWritten own written) = policy_nv_written_rule session written
policy_rule world session (commands.PolicySigned key own nonce cp_hash policy_ref expiration signature) =
    signed_rule world session key nonce cp_hash policy_ref expiration signature
policy_rule world session (commands.PolicySecret entity own auth nonce cp_hash policy_ref expiration) =
    policy_secret_rule session world.time nonce cp_hash expiration
policy_rule world session (commands.PolicyTicket own timeout cp_hash policy_ref key ticket) = ticket_rule world session timeout cp_hash policy_ref key ticket
policy_rule world session (commands.PolicyAuthorize own approved policy_ref key ticket) = authorize_rule world session approved policy_ref key ticket
policy_rule world session (commands.PolicyOr own digests) = policy_or_rule session digests
policy_rule world session (commands.PolicyAuthorizeNv authority index own auth) = authorize_nv_rule world session authority index
policy_rule world session _ = None

-- the same on the session that its handle names; TPM_RC_REFERENCE_H0 where that is not live
abbrev pub policy_command_rule : TableState → Command → Option ℕ
policy_command_rule tables command =
    option_and_then
    (λ own. option_map_or (λ state. policy_rule tables.world state command) (state_at tables.sessions own.0) (Some rc_reference_h0))
    (policy_session_of command)

-- ---- replies

-- the deadline that a reply tells: that of a negative expiration
abbrev pub timeout_of : ℕ → List ℕ → ℤ → Option ℕ
timeout_of start nonce expiration = if int_lt expiration (pos 0) then deadline_of start nonce expiration else None

-- the digest of the ticket that goes with it
abbrev pub ticket_digest : WorldState → ℕ → Name → Option Digest32 → List ℕ → ℕ → Digest32
ticket_digest world tag name cp_hash policy_ref deadline =
    auth_ticket (proof_of world.seed) tag deadline world.reset_count (optional_bytes cp_hash) policy_ref name

-- that ticket, and the null ticket where there is no deadline
abbrev pub ticket_of : WorldState → ℕ → Name → Option Digest32 → List ℕ → Option ℕ → Ticket
ticket_of world tag name cp_hash policy_ref None = record { tag = tag; hierarchy = rh_null; digest = [] }
ticket_of world tag name cp_hash policy_ref (Some deadline) =
    record { tag = tag; hierarchy = rh_owner; digest = (ticket_digest world tag name cp_hash policy_ref deadline).bytes }

-- the replies to PolicySigned and PolicySecret, on a session that started at this time
abbrev pub signed_reply : WorldState → ℕ → ℕ → List ℕ → Option Digest32 → List ℕ → ℤ → Reply
signed_reply world start key nonce cp_hash policy_ref expiration =
    replies.PolicySigned (timeout_of start nonce expiration)
    (ticket_of world st_auth_signed (name_at world key) cp_hash policy_ref (timeout_of start nonce expiration))

abbrev pub secret_reply : WorldState → ℕ → ℕ → List ℕ → Option Digest32 → List ℕ → ℤ → Reply
secret_reply world start entity nonce cp_hash policy_ref expiration =
    replies.PolicySecret (timeout_of start nonce expiration)
    (ticket_of world st_auth_secret (name_at world entity) cp_hash policy_ref (timeout_of start nonce expiration))

-- whether a reply tells a deadline, if there is one
abbrev pub has_timeout : Command → Bool
has_timeout (commands.PolicySigned key own nonce cp_hash policy_ref expiration signature) = true
has_timeout (commands.PolicySecret entity own auth nonce cp_hash policy_ref expiration) = true
has_timeout _ = false

-- the reply to a policy command on a session that started at this time
abbrev pub policy_reply : WorldState → ℕ → Command → Reply
policy_reply world start (commands.PolicyNv authority index own auth operand offset operation) = replies.PolicyNv
policy_reply world start (commands.PolicyCpHash own digest) = replies.PolicyCpHash
policy_reply world start (commands.PolicyNameHash own digest) = replies.PolicyNameHash
policy_reply world start (commands.PolicyAuthValue own) = replies.PolicyAuthValue
policy_reply world start (commands.PolicyPassword own) = replies.PolicyPassword
policy_reply world start (commands.PolicyPhysicalPresence own) = replies.PolicyPhysicalPresence
policy_reply world start (commands.PolicyCommandCode own code) = replies.PolicyCommandCode
policy_reply world start (commands.PolicyCounterTimer own operand offset operation) = replies.PolicyCounterTimer
policy_reply world start (commands.PolicyLocality own locality) = replies.PolicyLocality
policy_reply world start (commands.PolicyPcr own given mask) = replies.PolicyPcr
policy_reply world start (commands.PolicyDuplicationSelect own object parent include) = replies.PolicyDuplicationSelect
policy_reply world start (commands.PolicyNvWritten own written) = replies.PolicyNvWritten
policy_reply world start (commands.PolicySigned key own nonce cp_hash policy_ref expiration signature) =
    signed_reply world start key nonce cp_hash policy_ref expiration
policy_reply world start (commands.PolicySecret entity own auth nonce cp_hash policy_ref expiration) =
    secret_reply world start entity nonce cp_hash policy_ref expiration
policy_reply world start (commands.PolicyTicket own timeout cp_hash policy_ref key ticket) = replies.PolicyTicket
policy_reply world start (commands.PolicyAuthorize own approved policy_ref key ticket) = replies.PolicyAuthorize
policy_reply world start (commands.PolicyOr own digests) = replies.PolicyOr
policy_reply world start _ = replies.PolicyAuthorizeNv

-- the time at the start of a command's policy session
abbrev pub policy_start : TableState → Command → ℕ
policy_start tables command =
    option_map_or (λ own. option_map_or (λ state. state.start) (state_at tables.sessions own.0) 0) (policy_session_of command) 0

-- the same over the tables
abbrev pub policy_command_reply : TableState → Command → Reply
policy_command_reply tables command = policy_reply tables.world (policy_start tables command) command

-- Tickets in a journal: which one the bytes of a reply tell, which ones are this machine's, and what a command that
-- shows one asks (TPM 2.0 Part 3, TPM2_PolicyTicket and TPM2_PolicyAuthorize; Part 2, TPMT_TK_AUTH and
-- TPMT_TK_VERIFIED).
use Rattle.std.specs.Prelude.{◌≡◌, ◌⊎◌, ◌<◌, ◌≤◌, ◌^◌, ◌++◌, ◌∷◌, ℕ, true, List, length, slice_index, Option, Some, None, option_map, option_and_then, Ok, if◌then◌else◌}
use Rattle.tpm_auth.specs.Tickets.{auth_ticket, verified_ticket}
use Rattle.tpm_bindings.specs.State.{SessionState}
use Rattle.tpm_engine.specs.declared.event.Event.{Event}
use Rattle.tpm_engine.specs.declared.event.Event.TheVariants as events
use Rattle.tpm_engine.specs.Authorization.{number_of_command}
use Rattle.tpm_engine.specs.Events.{is_success}
use Rattle.tpm_engine.specs.Tickets.{Ticketed, ticket_by, told_ticket}
use Rattle.tpm_engine.specs.Views.{reset_count_of, time_of, view_of}
use Rattle.tpm_rules.specs.declared.outcome.Outcome.{Outcome}
use Rattle.tpm_rules.specs.PolicyAuthorize.{approval_hash}
use Rattle.tpm_rules.specs.Session.{policy_digest_of}
use Rattle.tpm_rules.specs.Slot.{takes_optional_cp_hash}
use Rattle.tpm_session.specs.Slots.{state_at}
use Rattle.tpm_world.specs.Hashes.{proof_of}
use Rattle.tpol_base.specs.declared.digest.Digest32.{Digest32}
use Rattle.tpol_base.specs.declared.name.Name.{Name}
use Rattle.tpol_base.specs.Constants.{st_auth_secret, st_auth_signed, st_verified}
use Rattle.tpol_base.specs.Digest.{optional_bytes}
use Rattle.tpol_base.specs.Handle.{rh_owner}
use Rattle.tpol_fields.specs.declared.ticket.Ticket.{Ticket}
use Rattle.tpol_name.specs.declared.setup.Setup.{Setup}
use Rattle.tpol_wire.specs.declared.command.Command.{Command}
use Rattle.tpol_wire.specs.declared.reply.Reply.{Reply}
use Rattle.tpol_wire.specs.declared.reply.Reply.TheVariants as replies
use Rattle.tpol_wire.specs.Reading.{reading}
use Rattle.tpol_wire.specs.ReplyReading.{reply_reading}

-- ---- commands in a journal

-- a command of the journal that was read: the events behind it and before it, who sent it, and what was answered
pub record CommandIn (journal : List Event) : Type 0 where
  pub later : List Event
  pub earlier : List Event
  pub client : ℕ
  pub locality : ℕ
  pub buffer : List ℕ
  pub reply : List ℕ
  pub outcome : Outcome
  pub command : Command
  pub there : journal ≡ later ++ events.Command client locality buffer reply outcome ∷ earlier
  pub reads : reading buffer ≡ Ok command

-- what is sent are bytes
abbrev pub IsOfBytes : List ℕ → Type 0
IsOfBytes buffer = (i : ℕ) → slice_index buffer i < 2 ^ 8

-- ---- what a reply tells

-- the reply that bytes are to a command
abbrev pub reply_told : Command → List ℕ → Option Reply
reply_told command bytes = option_map (λ read. read.0) (reply_reading (number_of_command command) bytes)

-- the ticket that they tell to a PolicySecret or a PolicySigned, with its deadline
abbrev pub ticket_told : Command → List ℕ → Option (ℕ × Ticket)
ticket_told command bytes = option_and_then told_ticket (reply_told command bytes)

-- the ticket that they tell to a VerifySignature
abbrev pub verified_in : Reply → Option Ticket
verified_in (replies.VerifySignature ticket) = Some ticket
verified_in _ = None

abbrev pub verification_told : Command → List ℕ → Option Ticket
verification_told command bytes = option_and_then verified_in (reply_told command bytes)

-- what a PolicySecret or a PolicySigned gives after these events: nothing where it is refused or denied, or its
-- expiration is not negative
abbrev pub given_by : Setup → List Event → Command → Outcome → Option Ticketed
given_by setup past command outcome = if is_success outcome then ticket_by (view_of setup past) command else None

-- ---- tickets of this machine

-- A ticket for an authorization until this deadline, by the entity of this Name: it is of one of two kinds, and its
-- digest is the HMAC under the machine's proof over the kind, the deadline, the reset count after these events,
-- cpHashA, policyRef and the Name.
pub record IsAuthorizationTicket (setup : Setup) (past : List Event) (deadline : ℕ) (cp_hash : Option Digest32) (policy_ref : List ℕ) (name : Name) (ticket : Ticket) : Type 0 where
  pub kind : (ticket.tag ≡ st_auth_secret) ⊎ (ticket.tag ≡ st_auth_signed)
  pub hierarchy : ticket.hierarchy ≡ rh_owner
  pub digest : ticket.digest
      ≡ (auth_ticket (proof_of setup.seed) ticket.tag deadline (reset_count_of setup past) (optional_bytes cp_hash) policy_ref name).bytes

-- A ticket that a signature of a digest by the key of this Name was verified: its own digest is the HMAC under the
-- machine's proof over the kind, that digest and the Name.
pub record IsVerificationTicket (setup : Setup) (signed : Digest32) (key : Name) (ticket : Ticket) : Type 0 where
  pub kind : ticket.tag ≡ st_verified
  pub hierarchy : ticket.hierarchy ≡ rh_owner
  pub digest : ticket.digest ≡ (verified_ticket (proof_of setup.seed) signed key).bytes

-- ---- where a ticket is accepted

-- the policy session of this handle is live, has room for one more fact, and its slot takes the cpHashA
pub record TakesAuthorization (setup : Setup) (past : List Event) (own : ℕ) (cp_hash : Option Digest32) : Type 0 where
  pub state : SessionState
  pub live : state_at (view_of setup past).sessions own ≡ Some state
  pub room : length state.facts < 512
  pub slot : takes_optional_cp_hash state.facts cp_hash ≡ true

-- a PolicyTicket with these fields is accepted: its session takes it, the deadline has not passed, and the ticket is
-- one of this machine for them
pub record IsTicketAccepted (setup : Setup) (past : List Event) (own deadline : ℕ) (cp_hash : Option Digest32) (policy_ref : List ℕ) (name : Name) (ticket : Ticket) : Type 0 where
  pub takes : TakesAuthorization setup past own cp_hash
  pub early : time_of setup past ≤ deadline
  pub ticket_is : IsAuthorizationTicket setup past deadline cp_hash policy_ref name ticket

-- a PolicyAuthorize with these fields is accepted: its session is live and has room, the digest that it has is the
-- approved one, and the ticket is one of this machine for the approval and the key
pub record IsApprovalAccepted (setup : Setup) (past : List Event) (own : ℕ) (approved : Digest32) (policy_ref : List ℕ) (key : Name) (ticket : Ticket) : Type 0 where
  pub state : SessionState
  pub live : state_at (view_of setup past).sessions own ≡ Some state
  pub room : length state.facts < 512
  pub meets : policy_digest_of state ≡ approved
  pub ticket_is : IsVerificationTicket setup (approval_hash approved policy_ref) key ticket

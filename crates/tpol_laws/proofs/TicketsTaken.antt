-- Which ticket a PolicyTicket and a PolicyAuthorize in a journal show: one of this machine alone.
use Rattle.std.proofs.Common.{◌≡◌, ◌↔◌, ◌≤◌, ◌<◌, ◌⊎◌, inl, inr, ℕ, ◌+◌, ◌^◌, ◌||◌, ◌&&◌, Bool, true, false, List, [], ◌∷◌, ◌++◌, length, nat_eq, nat_le, nat_lt, if◌then◌else◌, refl, ap, sym, subst, ◌∙◌, arith, append_assoc}
use Rattle.std.specs.Prelude.{Option, Some, None, option_map, Ok}
use Rattle.std.specs.Option.{option_and_then}
use Rattle.std.specs.Str.{bytes_eq}
use Rattle.std.proofs.lemmas.Bool.{eq-eqb, eqb-true, false≢true}
use Rattle.std.proofs.lemmas.Bool.Decides.{nat_tests}
use Rattle.std.proofs.lemmas.Option.{none-some, same_Some}
use Rattle.std.proofs.lemmas.Slice.Eq.{bytes_eq-Decides}
use Rattle.tpm_auth.specs.Tickets.{auth_ticket, verified_ticket}
use Rattle.tpm_bindings.specs.State.{SessionState}
use Rattle.tpm_engine.specs.declared.event.Event.{Event}
use Rattle.tpm_engine.specs.declared.event.Event.TheVariants as events
use Rattle.tpm_engine.specs.declared.stop.Stop.{Stop}
use Rattle.tpm_engine.specs.Answers.{early_stop, first_stop, own_rule, stopped, succeeding}
use Rattle.tpm_engine.specs.Authorization.{authorization_stop, number_of_command}
use Rattle.tpm_engine.specs.Events.{Answered, is_success}
use Rattle.tpm_engine.specs.Legal.{IsLegal, answer_to}
use Rattle.tpm_engine.specs.PolicyCommands.{policy_rule, policy_start, ticket_digest, verified_digest}
use Rattle.tpm_engine.specs.Stops.{handle_stop, handles_stop, has_room, refuses, room_stop, session_stop}
use Rattle.tpm_engine.specs.Tables.{TableState}
use Rattle.tpm_engine.specs.Tickets.{Ticketed, has_reset, ticket_by, ticket_command, ticketed}
use Rattle.tpm_engine.specs.Views.{live_at, next_number, reset_count_of, time_of, view_of, world_at}
use Rattle.tpm_engine.proofs.Lookups.{content-table, is_slot_handle}
use Rattle.tpm_engine.proofs.Stopping.{or_else-none, unless-none}
use Rattle.tpm_engine.proofs.Succeeding.{first-none}
use Rattle.tpm_engine.proofs.TicketLaws.{accepted}
use Rattle.tpm_policy.specs.Judgments.{is_approval_ticket, is_auth_ticket}
use Rattle.tpm_rules.specs.declared.outcome.Outcome.{Outcome}
use Rattle.tpm_rules.specs.declared.outcome.Outcome.TheVariants.{Accepted}
use Rattle.tpm_rules.specs.Entity.{Entity, Hierarchy, Index, Object, Pcr}
use Rattle.tpm_rules.specs.PolicyAuthorize.{approval_hash}
use Rattle.tpm_rules.specs.Rule.{or_else, unless}
use Rattle.tpm_rules.specs.Session.{policy_digest_of}
use Rattle.tpm_rules.specs.Slot.{takes_optional_cp_hash}
use Rattle.tpm_session.specs.Slots.{IsSlotHandle, state_at}
use Rattle.tpm_world.specs.Entities.{entity_of_kind, name_at, name_of_entity}
use Rattle.tpm_world.specs.Hashes.{proof_of}
use Rattle.tpm_world.specs.Objects.{object_of}
use Rattle.tpm_world.specs.VerifySignature as verification
use Rattle.tpm_world.specs.World.{WorldState}
use Rattle.tpol_base.specs.declared.digest.Digest32.{Digest32}
use Rattle.tpol_base.specs.declared.handle.HandleKind.{HandleKind}
use Rattle.tpol_base.specs.declared.name.Name.{Name}
use Rattle.tpol_base.specs.Constants.{st_auth_secret, st_auth_signed, st_verified}
use Rattle.tpol_base.specs.Digest.{is_same_digest, optional_bytes}
use Rattle.tpol_base.specs.ResponseCode.{of_parameter, rc_cphash, rc_expired, rc_reference_h0, rc_session_memory, rc_ticket, rc_value}
use Rattle.tpol_base.specs.Handle.{is_object, is_policy_session, rh_owner}
use Rattle.tpol_base.proofs.Digests.{same_digest}
use Rattle.tpol_fields.specs.declared.ticket.Ticket.{Ticket}
use Rattle.tpol_fields.specs.Kinds.{Fits, NameFits, TicketFits, TimeoutFits}
use Rattle.tpol_name.specs.declared.entries.ObjectEntry.{ObjectEntry}
use Rattle.tpol_name.specs.declared.setup.Setup.{Setup}
use Rattle.tpol_name.specs.Areas.{object_name}
use Rattle.tpol_wire.specs.declared.auth_area.ReplyAuth.{ReplyAuth}
use Rattle.tpol_wire.specs.declared.command.Command.{Command}
use Rattle.tpol_wire.specs.declared.command.Command.TheVariants as commands
use Rattle.tpol_wire.specs.declared.reply.Reply.{Reply}
use Rattle.tpol_wire.specs.Commands.{FitsCommand, ValuesFit, spelling}
use Rattle.tpol_wire.specs.Reading.{reading}
use Rattle.tpol_laws.specs.JournalTickets.{CommandIn, IsApprovalAccepted, IsAuthorizationTicket, IsOfBytes, IsTicketAccepted, IsVerificationTicket, TakesAuthorization, given_by, verification_told, verified_in}
use Rattle.tpol_laws.proofs.Answered.{on-answer, own-passed, read-back, refusal-read, stop-code, stop-fails}
use Rattle.tpol_laws.proofs.Codes.{first-coded, rules-coded}
use Rattle.tpol_laws.proofs.Fit.{IsHandle, session-handle}
use Rattle.tpol_laws.proofs.Own.{object-range, ruled}
use Rattle.tpol_laws.proofs.Step.{verifies}
use Rattle.tpol_laws.proofs.TicketsGiven.{answered-in, fits-in, given-is, start-before, timeout-fits}
use Rattle.tpol_laws.proofs.Unstopped.{own-rule-on, session-there, unstopped}

-- ---- tests

three : (a b c : Bool) → (a && b && c) ≡ true → (a ≡ true) × ((b ≡ true) × (c ≡ true))
three true true true h = (refl, (refl, refl))
three true true false h = absurd (false≢true h)
three true false c h = absurd (false≢true h)
three false b c h = absurd (false≢true h)

all-three : (a b c : Bool) → a ≡ true → b ≡ true → c ≡ true → (a && b && c) ≡ true
all-three a b c ha hb hc = rw (ha, hb, hc) refl

same-bytes : (a b : List ℕ) → bytes_eq a b ≡ true → a ≡ b
same-bytes a b h = (bytes_eq-Decides a b).0 h

equal-bytes : (a b : List ℕ) → a ≡ b → bytes_eq a b ≡ true
equal-bytes a b same = (bytes_eq-Decides a b).1 same

within : (a b : ℕ) → a ≤ b → nat_le a b ≡ true
within a b h = grind (arith, nat_tests)

at-most : (a b : ℕ) → nat_le a b ≡ true → a ≤ b
at-most a b h = grind (arith, nat_tests)

below : (a b : ℕ) → a < b → nat_lt a b ≡ true
below a b h = grind (arith, nat_tests)

less : (a b : ℕ) → nat_lt a b ≡ true → a < b
less a b h = grind (arith, nat_tests)

-- ---- a policy command without an authorization

live-slot : (setup : Setup) (past : List Event) (own : ℕ) (state : SessionState) → state_at (view_of setup past).sessions own ≡ Some state → is_slot_handle own ≡ true
unfolding view_of
live-slot setup past own state live = at (is_slot_handle own) (sym (content-table (live_at setup past) own) ∙ live)
  where
    at : (b : Bool) → (if b then live_at setup past own else None) ≡ Some state → b ≡ true
    at true h = refl
    at false h = absurd (none-some state h)

slot-handle : (own : ℕ) → is_slot_handle own ≡ true → IsSlotHandle own
slot-handle own h = grind (arith, nat_tests)

-- its session is live, has room, and its own rule holds
record Passed (tables : TableState) (own : ℕ) (command : Command) : Type 0 where
  state : SessionState
  live : state_at tables.sessions own ≡ Some state
  room : length state.facts < 512
  rule : policy_rule tables.world state command ≡ None

passed-room : (tables : TableState) (locality own : ℕ) (command : Command) (state : SessionState) → state_at tables.sessions own ≡ Some state
    → room_stop tables command ≡ option_and_then has_room (state_at tables.sessions own) → first_stop tables locality command ≡ None → length state.facts < 512
passed-room tables locality own command state live is none =
    let early = (or_else-none (early_stop tables locality command) (option_map refuses (own_rule tables command)) none).0 in
    let behind = (or_else-none (handles_stop tables command) _ early).1 in
    let later = (or_else-none (session_stop tables command) _ behind).1 in
    let room = (or_else-none (authorization_stop tables locality command) (room_stop tables command) later).1 in
    less (length state.facts) 512 (unless-none (nat_lt (length state.facts) 512) (refuses rc_session_memory) (sym (ap (option_and_then has_room) live) ∙ sym is ∙ room))

module _ (setup : Setup) (past : List Event) (locality own : ℕ) (command : Command) (state : SessionState) (live : state_at (view_of setup past).sessions own ≡ Some state) (room : length state.facts < 512) where
  room-none : room_stop (view_of setup past) command ≡ option_and_then has_room (state_at (view_of setup past).sessions own) → room_stop (view_of setup past) command ≡ None
  room-none is =
      is ∙ ap (option_and_then has_room) live ∙ ap (λ b. unless b (refuses rc_session_memory)) (below (length state.facts) 512 room)

  handle-none : handles_stop (view_of setup past) command ≡ or_else (handle_stop (view_of setup past) 1 own) None → handles_stop (view_of setup past) command ≡ None
  handle-none is =
      is ∙ ap (λ (h : Option Stop). or_else h None) (session-there (view_of setup past) 1 own state (slot-handle own (live-slot setup past own state live)) live)

-- an event of a command that was accepted
accepted-first : (setup : Setup) (journal : List Event) (it : CommandIn journal) → IsLegal setup journal → it.outcome ≡ Accepted → first_stop (view_of setup it.earlier) it.locality it.command ≡ None
accepted-first setup journal it legal is =
    first-none setup it.earlier it.client it.locality it.buffer it.reply it.outcome it.command (answered-in setup journal it legal) (ap is_success is) it.reads

accepted-by : (setup : Setup) (journal : List Event) (it : CommandIn journal) → IsLegal setup journal → (succeeding (view_of setup it.earlier) (next_number it.earlier) it.command).outcome ≡ Accepted
    → first_stop (view_of setup it.earlier) it.locality it.command ≡ None → it.outcome ≡ Accepted
accepted-by setup journal it legal success none =
    ap (λ (a : Answered). a.outcome) (sym (answered-in setup journal it legal))
    ∙ on-answer (λ a. a.outcome ≡ Accepted) (view_of setup it.earlier) (next_number it.earlier) it.locality it.buffer it.command it.reads
    (λ stop stops. absurd (none-some stop (sym none ∙ stops)))
    (λ first. success)

-- ---- PolicyTicket

kind-of : (tag : ℕ) → (nat_eq tag st_auth_secret || nat_eq tag st_auth_signed) ≡ true → (tag ≡ st_auth_secret) ⊎ (tag ≡ st_auth_signed)
kind-of tag h = at (nat_eq tag st_auth_secret) refl (nat_eq tag st_auth_signed) refl h
  where
    at : (a : Bool) → nat_eq tag st_auth_secret ≡ a → (b : Bool) → nat_eq tag st_auth_signed ≡ b → (a || b) ≡ true → (tag ≡ st_auth_secret) ⊎ (tag ≡ st_auth_signed)
    at true ea b eb h = inl (eqb-true tag st_auth_secret ea)
    at false ea true eb h = inr (eqb-true tag st_auth_signed eb)
    at false ea false eb h = absurd (false≢true h)

of-kind : (tag : ℕ) → (tag ≡ st_auth_secret) ⊎ (tag ≡ st_auth_signed) → (nat_eq tag st_auth_secret || nat_eq tag st_auth_signed) ≡ true
of-kind tag (inl same) = ap (λ n. nat_eq n st_auth_secret || nat_eq n st_auth_signed) same
of-kind tag (inr same) = ap (λ n. nat_eq n st_auth_secret || nat_eq n st_auth_signed) same

module _ (setup : Setup) (past : List Event) (deadline : ℕ) (cp_hash : Option Digest32) (policy_ref : List ℕ) (name : Name) (ticket : Ticket) where
  abbrev right : Bool
  right =
      is_auth_ticket (proof_of (view_of setup past).world.seed) (view_of setup past).world.reset_count deadline cp_hash policy_ref name ticket.tag ticket.hierarchy ticket.digest

  ticket-is : right ≡ true → IsAuthorizationTicket setup past deadline cp_hash policy_ref name ticket
  unfolding view_of world_at
  ticket-is h =
      let parts = three (nat_eq ticket.tag st_auth_secret || nat_eq ticket.tag st_auth_signed) (nat_eq ticket.hierarchy rh_owner)
      (bytes_eq ticket.digest (auth_ticket (proof_of setup.seed) ticket.tag deadline (reset_count_of setup past) (optional_bytes cp_hash) policy_ref name).bytes) h in
      record {
        kind = kind-of ticket.tag parts.0;
        hierarchy = eqb-true ticket.hierarchy rh_owner parts.1.0;
        digest = same-bytes _ _ parts.1.1;
      }

  is-ticket : IsAuthorizationTicket setup past deadline cp_hash policy_ref name ticket → right ≡ true
  unfolding view_of world_at
  is-ticket is =
      all-three (nat_eq ticket.tag st_auth_secret || nat_eq ticket.tag st_auth_signed) (nat_eq ticket.hierarchy rh_owner)
      (bytes_eq ticket.digest (auth_ticket (proof_of setup.seed) ticket.tag deadline (reset_count_of setup past) (optional_bytes cp_hash) policy_ref name).bytes)
      (of-kind ticket.tag is.kind) (eq-eqb ticket.hierarchy rh_owner is.hierarchy) (equal-bytes _ _ is.digest)

  module _ (locality own : ℕ) where
    rule-none : (is : IsTicketAccepted setup past own deadline cp_hash policy_ref name ticket) → policy_rule (view_of setup past).world is.takes.state (commands.PolicyTicket own deadline cp_hash policy_ref name ticket) ≡ None
    unfolding view_of world_at
    rule-none is =
        ap (λ b. or_else (unless b (rc_expired + of_parameter 1)) (or_else (unless (takes_optional_cp_hash is.takes.state.facts cp_hash) rc_cphash) (unless right (rc_ticket + of_parameter 5)))) (within (time_of setup past) deadline is.early)
        ∙ ap (λ b. or_else (unless b rc_cphash) (unless right (rc_ticket + of_parameter 5))) is.takes.slot
        ∙ ap (λ b. unless b (rc_ticket + of_parameter 5)) (is-ticket is.ticket_is)

    ticket-only : first_stop (view_of setup past) locality (commands.PolicyTicket own deadline cp_hash policy_ref name ticket) ≡ None → IsTicketAccepted setup past own deadline cp_hash policy_ref name ticket
    unfolding view_of world_at
    ticket-only none =
        let own_none = own-passed (view_of setup past) locality (commands.PolicyTicket own deadline cp_hash policy_ref name ticket) none in
        let found = ruled (λ (state : SessionState). policy_rule (view_of setup past).world state (commands.PolicyTicket own deadline cp_hash policy_ref name ticket)) (state_at (view_of setup past).sessions own) rc_reference_h0 own_none in
        let early = or_else-none (unless (nat_le (time_of setup past) deadline) (rc_expired + of_parameter 1)) (or_else (unless (takes_optional_cp_hash found.value.facts cp_hash) rc_cphash) (unless right (rc_ticket + of_parameter 5))) found.holds in
        let slot = or_else-none (unless (takes_optional_cp_hash found.value.facts cp_hash) rc_cphash) (unless right (rc_ticket + of_parameter 5)) early.1 in
        record {
          takes = record {
            state = found.value;
            live = found.is;
            room = passed-room (view_of setup past) locality own (commands.PolicyTicket own deadline cp_hash policy_ref name ticket) found.value found.is refl none;
            slot = unless-none (takes_optional_cp_hash found.value.facts cp_hash) rc_cphash slot.0;
          };
          early = at-most (time_of setup past) deadline (unless-none (nat_le (time_of setup past) deadline) (rc_expired + of_parameter 1) early.0);
          ticket_is = ticket-is (unless-none right (rc_ticket + of_parameter 5) slot.1);
        }

    ticket-passes : IsTicketAccepted setup past own deadline cp_hash policy_ref name ticket → first_stop (view_of setup past) locality (commands.PolicyTicket own deadline cp_hash policy_ref name ticket) ≡ None
    ticket-passes is =
        let takes = is.takes in
        unstopped (view_of setup past) locality (commands.PolicyTicket own deadline cp_hash policy_ref name ticket)
        (handle-none setup past locality own (commands.PolicyTicket own deadline cp_hash policy_ref name ticket) takes.state takes.live takes.room refl)
        refl refl
        (room-none setup past locality own (commands.PolicyTicket own deadline cp_hash policy_ref name ticket) takes.state takes.live takes.room refl)
        (own-rule-on (view_of setup past) own takes.state takes.live (commands.PolicyTicket own deadline cp_hash policy_ref name ticket) 1 refl ∙ rule-none is)

pub ticket-accepted : (setup : Setup) (journal : List Event) (it : CommandIn journal) (own deadline : ℕ) (cp_hash : Option Digest32) (policy_ref : List ℕ) (name : Name) (ticket : Ticket) → IsLegal setup journal
    → it.command ≡ commands.PolicyTicket own deadline cp_hash policy_ref name ticket → (it.outcome ≡ Accepted) ↔ IsTicketAccepted setup it.earlier own deadline cp_hash policy_ref name ticket
ticket-accepted setup journal it own deadline cp_hash policy_ref name ticket legal same = (
  λ is. ticket-only setup it.earlier deadline cp_hash policy_ref name ticket it.locality own
      (subst (λ (c : Command). first_stop (view_of setup it.earlier) it.locality c ≡ None) same (accepted-first setup journal it legal is)),
  λ is. accepted-by setup journal it legal
      (ap (λ (c : Command). (succeeding (view_of setup it.earlier) (next_number it.earlier) c).outcome) same)
      (subst (λ (c : Command). first_stop (view_of setup it.earlier) it.locality c ≡ None) (sym same) (ticket-passes setup it.earlier deadline cp_hash policy_ref name ticket it.locality own is)),
)

-- ---- PolicyAuthorize

module _ (setup : Setup) (past : List Event) (approved : Digest32) (policy_ref : List ℕ) (key : Name) (ticket : Ticket) where
  abbrev verifies-it : Bool
  verifies-it = is_approval_ticket (proof_of (view_of setup past).world.seed) approved policy_ref key (verified_digest ticket)

  -- a ticket of another kind counts as one without bytes, which is none
  digest-of : (tag owner : Bool) (bytes : List ℕ) (digest : Digest32) → bytes_eq (if tag && owner then bytes else []) digest.bytes ≡ true → (tag ≡ true) × ((owner ≡ true) × (bytes ≡ digest.bytes))
  digest-of true true bytes digest h = (refl, (refl, same-bytes bytes digest.bytes h))
  digest-of true false bytes digest h = let none : [] ≡ digest.bytes = same-bytes [] digest.bytes h in absurd (omega (arith, digest.whole, ap length none))
  digest-of false owner bytes digest h = let none : [] ≡ digest.bytes = same-bytes [] digest.bytes h in absurd (omega (arith, digest.whole, ap length none))

  approval-is : verifies-it ≡ true → IsVerificationTicket setup (approval_hash approved policy_ref) key ticket
  unfolding view_of world_at
  approval-is h =
      let parts = digest-of (nat_eq ticket.tag st_verified) (nat_eq ticket.hierarchy rh_owner) ticket.digest (verified_ticket (proof_of setup.seed) (approval_hash approved policy_ref) key) h in
      record {
        kind = eqb-true ticket.tag st_verified parts.0;
        hierarchy = eqb-true ticket.hierarchy rh_owner parts.1.0;
        digest = parts.1.1;
      }

  is-approval : IsVerificationTicket setup (approval_hash approved policy_ref) key ticket → verifies-it ≡ true
  unfolding view_of world_at
  is-approval is =
      ap (λ b. bytes_eq (if b && nat_eq ticket.hierarchy rh_owner then ticket.digest else []) (verified_ticket (proof_of setup.seed) (approval_hash approved policy_ref) key).bytes) (eq-eqb ticket.tag st_verified is.kind)
      ∙ ap (λ b. bytes_eq (if true && b then ticket.digest else []) (verified_ticket (proof_of setup.seed) (approval_hash approved policy_ref) key).bytes) (eq-eqb ticket.hierarchy rh_owner is.hierarchy)
      ∙ equal-bytes ticket.digest _ is.digest

  module _ (locality own : ℕ) where
    approval-only : first_stop (view_of setup past) locality (commands.PolicyAuthorize own approved policy_ref key ticket) ≡ None → IsApprovalAccepted setup past own approved policy_ref key ticket
    approval-only none =
        let own_none = own-passed (view_of setup past) locality (commands.PolicyAuthorize own approved policy_ref key ticket) none in
        let found = ruled (λ (state : SessionState). policy_rule (view_of setup past).world state (commands.PolicyAuthorize own approved policy_ref key ticket)) (state_at (view_of setup past).sessions own) rc_reference_h0 own_none in
        let parts = or_else-none (unless (is_same_digest (policy_digest_of found.value) approved) (rc_value + of_parameter 1)) (unless verifies-it (rc_value + of_parameter 4)) found.holds in
        record {
          state = found.value;
          live = found.is;
          room = passed-room (view_of setup past) locality own (commands.PolicyAuthorize own approved policy_ref key ticket) found.value found.is refl none;
          meets = same_digest (policy_digest_of found.value) approved (same-bytes _ _ (unless-none (is_same_digest (policy_digest_of found.value) approved) (rc_value + of_parameter 1) parts.0));
          ticket_is = approval-is (unless-none verifies-it (rc_value + of_parameter 4) parts.1);
        }

    approval-passes : IsApprovalAccepted setup past own approved policy_ref key ticket → first_stop (view_of setup past) locality (commands.PolicyAuthorize own approved policy_ref key ticket) ≡ None
    approval-passes is =
        unstopped (view_of setup past) locality (commands.PolicyAuthorize own approved policy_ref key ticket)
        (handle-none setup past locality own (commands.PolicyAuthorize own approved policy_ref key ticket) is.state is.live is.room refl)
        refl refl
        (room-none setup past locality own (commands.PolicyAuthorize own approved policy_ref key ticket) is.state is.live is.room refl)
        (own-rule-on (view_of setup past) own is.state is.live (commands.PolicyAuthorize own approved policy_ref key ticket) 1 refl
        ∙ ap (λ b. or_else (unless b (rc_value + of_parameter 1)) (unless verifies-it (rc_value + of_parameter 4))) (equal-bytes (policy_digest_of is.state).bytes approved.bytes (ap (λ (d : Digest32). d.bytes) is.meets))
        ∙ ap (λ b. unless b (rc_value + of_parameter 4)) (is-approval is.ticket_is))

pub approval-accepted : (setup : Setup) (journal : List Event) (it : CommandIn journal) (own : ℕ) (approved : Digest32) (policy_ref : List ℕ) (key : Name) (ticket : Ticket) → IsLegal setup journal
    → it.command ≡ commands.PolicyAuthorize own approved policy_ref key ticket → (it.outcome ≡ Accepted) ↔ IsApprovalAccepted setup it.earlier own approved policy_ref key ticket
approval-accepted setup journal it own approved policy_ref key ticket legal same = (
  λ is. approval-only setup it.earlier approved policy_ref key ticket it.locality own
      (subst (λ (c : Command). first_stop (view_of setup it.earlier) it.locality c ≡ None) same (accepted-first setup journal it legal is)),
  λ is. accepted-by setup journal it legal
      (ap (λ (c : Command). (succeeding (view_of setup it.earlier) (next_number it.earlier) c).outcome) same)
      (subst (λ (c : Command). first_stop (view_of setup it.earlier) it.locality c ≡ None) (sym same) (approval-passes setup it.earlier approved policy_ref key ticket it.locality own is)),
)

-- ---- VerifySignature

object-named : (world : WorldState) (key : ℕ) (object : ObjectEntry) → is_object key ≡ true → object_of key world.objects ≡ Some object → name_at world key ≡ object_name object.public
object-named world key object is held =
    let low : 0x80000000 ≤ key = grind (arith, nat_tests, is) in
    let high : key ≤ 0x80ffffff = grind (arith, nat_tests, is) in
    ap (λ (kind : Option HandleKind). name_of_entity key (entity_of_kind world key kind)) (object-range key low high)
    ∙ ap (λ (o : Option ObjectEntry). name_of_entity key (option_map Object o)) held

-- what is told, where a ticket is one of this machine for what was verified
abbrev TellsVerified : Setup → List Event → ℕ → Digest32 → Digest32 → Ticket → Answered → Type 0
TellsVerified setup past key signed signature ticket answered =
    (verification_told (commands.VerifySignature key signed signature) answered.reply ≡ Some ticket)
    ↔ ((is_success answered.outcome ≡ true) × IsVerificationTicket setup signed (name_at (world_at setup past) key) ticket)

one-ticket : (setup : Setup) (signed : Digest32) (key : Name) (ticket : Ticket) → IsVerificationTicket setup signed key ticket
    → record { tag = st_verified; hierarchy = rh_owner; digest = (verified_ticket (proof_of setup.seed) signed key).bytes } ≡ ticket
one-ticket setup signed key ticket is = λ i. record { tag = sym is.kind i; hierarchy = sym is.hierarchy i; digest = sym is.digest i }

module _ (setup : Setup) (past : List Event) (locality key : ℕ) (signed signature : Digest32) (ticket : Ticket) where
  stopped-verified : (stop : Stop) → first_stop (view_of setup past) locality (commands.VerifySignature key signed signature) ≡ Some stop → TellsVerified setup past key signed signature ticket (stopped stop)
  stopped-verified stop stops =
      let command = commands.VerifySignature key signed signature in
      let fails = stop-fails (view_of setup past) locality (commands.VerifySignature key signed signature) stop stops in
      let none : verification_told (commands.VerifySignature key signed signature) (stopped stop).reply ≡ None =
      ap (λ (read : Option (Reply × Option ReplyAuth)). option_and_then verified_in (option_map (λ (r : Reply × Option ReplyAuth). r.0) read))
      (refusal-read (number_of_command (commands.VerifySignature key signed signature)) stop.code
      (stop-code (first_stop (view_of setup past) locality (commands.VerifySignature key signed signature)) stop
      (first-coded (view_of setup past) locality (commands.VerifySignature key signed signature) (rules-coded (view_of setup past) (commands.VerifySignature key signed signature))) stops)) in (
        λ tells. absurd (none-some ticket (sym none ∙ tells)),
        λ both. absurd (false≢true (sym fails ∙ both.0)),
      )

  done-verified : is_object key ≡ true → first_stop (view_of setup past) locality (commands.VerifySignature key signed signature) ≡ None
      → TellsVerified setup past key signed signature ticket (succeeding (view_of setup past) (next_number past) (commands.VerifySignature key signed signature))
  unfolding view_of world_at
  done-verified is none =
      let it = verifies (view_of setup past) (next_number past) key signed signature (own-passed (view_of setup past) locality (commands.VerifySignature key signed signature) none) in
      let named : name_at (world_at setup past) key ≡ object_name it.object.public = object-named (world_at setup past) key it.object is it.held in
      let tells : verification_told (commands.VerifySignature key signed signature) (succeeding (view_of setup past) (next_number past) (commands.VerifySignature key signed signature)).reply ≡ Some it.ticket =
      ap (λ (read : Option (Reply × Option ReplyAuth)). option_and_then verified_in (option_map (λ (r : Reply × Option ReplyAuth). r.0) read)) it.reads in
      let made : IsVerificationTicket setup signed (name_at (world_at setup past) key) it.ticket =
      subst (λ (t : Ticket). IsVerificationTicket setup signed (name_at (world_at setup past) key) t) (sym it.made)
      (subst (λ (name : Name). IsVerificationTicket setup signed name (verification.ticket_of (world_at setup past) signed it.object)) (sym named) (record { kind = refl; hierarchy = refl; digest = refl })) in (
        λ told. (refl, subst (IsVerificationTicket setup signed (name_at (world_at setup past) key)) (same_Some _ _ (sym tells ∙ told)) made),
        λ both. tells ∙ ap Some (sym (one-ticket setup signed (name_at (world_at setup past) key) it.ticket made) ∙ one-ticket setup signed (name_at (world_at setup past) key) ticket both.1),
      )

  answer-verified : (buffer : List ℕ) → reading buffer ≡ Ok (commands.VerifySignature key signed signature) → is_object key ≡ true → TellsVerified setup past key signed signature ticket (answer_to setup past locality buffer)
  answer-verified buffer reads is =
      on-answer (TellsVerified setup past key signed signature ticket) (view_of setup past) (next_number past) locality buffer (commands.VerifySignature key signed signature) reads
      (λ stop stops. stopped-verified stop stops)
      (λ first. done-verified is first)

key-kind : (key : ℕ) (signed signature : Digest32) → FitsCommand (commands.VerifySignature key signed signature) → is_object key ≡ true
unfolding ValuesFit Fits
key-kind key signed signature fits = fits.handles.0.1

pub verified-in-journal : (setup : Setup) (journal : List Event) (it : CommandIn journal) (key : ℕ) (signed signature : Digest32) (ticket : Ticket) → IsLegal setup journal → IsOfBytes it.buffer
    → it.command ≡ commands.VerifySignature key signed signature
    → (verification_told it.command it.reply ≡ Some ticket) ↔ ((is_success it.outcome ≡ true) × IsVerificationTicket setup signed (name_at (world_at setup it.earlier) key) ticket)
verified-in-journal setup journal it key signed signature ticket legal bytes same =
    subst (λ (c : Command). (verification_told c it.reply ≡ Some ticket) ↔ ((is_success it.outcome ≡ true) × IsVerificationTicket setup signed (name_at (world_at setup it.earlier) key) ticket)) (sym same)
    (subst (TellsVerified setup it.earlier key signed signature ticket) (answered-in setup journal it legal)
    (answer-verified setup it.earlier it.locality key signed signature ticket it.buffer (it.reads ∙ ap Ok same)
    (key-kind key signed signature (subst FitsCommand same (fits-in journal it bytes)))))

-- ---- a ticket that was told is accepted later

reset-more : (later : List Event) (client locality : ℕ) (buffer reply : List ℕ) (outcome : Outcome) → has_reset later ≡ false → has_reset (later ++ events.Command client locality buffer reply outcome ∷ []) ≡ false
unfolding has_reset
reset-more [] client locality buffer reply outcome none = refl
reset-more (events.Command c l b r o ∷ later) client locality buffer reply outcome none = reset-more later client locality buffer reply outcome none
reset-more (events.Time ms ∷ later) client locality buffer reply outcome none = reset-more later client locality buffer reply outcome none
reset-more (events.Presence on ∷ later) client locality buffer reply outcome none = reset-more later client locality buffer reply outcome none
reset-more (events.Reset ∷ later) client locality buffer reply outcome none = absurd (false≢true (sym none))

name-fits : (handle : ℕ) (entity : Option Entity) → handle < 2 ^ 32 → NameFits (name_of_entity handle entity)
name-fits handle None few = few
name-fits handle (Some (Hierarchy own auth)) few = few
name-fits handle (Some Pcr) few = few
name-fits handle (Some (Object object)) few = tt
name-fits handle (Some (Index index)) few = tt

-- what is given is within the bounds of the wire
record GivenFits (given : Ticketed) : Type 0 where
  deadline : given.deadline < 2 ^ 64
  policy_ref : length given.policy_ref ≤ 64
  name : NameFits given.name
  ticket : TicketFits given.ticket

fits-by : (world : WorldState) (tag : ℕ) (name : Name) (cp_hash : Option Digest32) (policy_ref : List ℕ) (timeout : Option ℕ) (given : Ticketed) → tag < 2 ^ 16 → TimeoutFits timeout → length policy_ref ≤ 64 → NameFits name
    → option_map (ticketed world tag name cp_hash policy_ref) timeout ≡ Some given → GivenFits given
fits-by world tag name cp_hash policy_ref None given small within short named h = absurd (none-some given h)
fits-by world tag name cp_hash policy_ref (Some deadline) given small within short named h =
    let whole : length (ticket_digest world tag name cp_hash policy_ref deadline).bytes ≤ 64 = omega (arith, (ticket_digest world tag name cp_hash policy_ref deadline).whole) in
    subst GivenFits (same_Some _ _ h)
    (record { deadline = within; policy_ref = short; name = named; ticket = record { tag = small; hierarchy = omega arith; digest = whole } })

given-fits : (setup : Setup) (past : List Event) (command : Command) (given : Ticketed) → time_of setup past ≤ 2 ^ 63 → FitsCommand command → ticket_by (view_of setup past) command ≡ Some given → GivenFits given
unfolding ValuesFit Fits
given-fits setup past (commands.PolicySigned key own nonce cp_hash policy_ref expiration signature) given early fits h =
    let start = start-before setup past own in
    fits-by (view_of setup past).world st_auth_signed (name_at (view_of setup past).world key) cp_hash policy_ref _ given (omega arith)
    (timeout-fits (policy_start (view_of setup past) (commands.PolicySigned key own nonce cp_hash policy_ref expiration signature)) nonce expiration (omega (arith, start, early)) fits.parameters.1.1.1.0)
    fits.parameters.1.1.0 (name-fits key _ fits.handles.0.0) h
given-fits setup past (commands.PolicySecret entity own auth nonce cp_hash policy_ref expiration) given early fits h =
    let start = start-before setup past own in
    fits-by (view_of setup past).world st_auth_secret (name_at (view_of setup past).world entity) cp_hash policy_ref _ given (omega arith)
    (timeout-fits (policy_start (view_of setup past) (commands.PolicySecret entity own auth nonce cp_hash policy_ref expiration)) nonce expiration (omega (arith, start, early)) fits.parameters.1.1.1.0)
    fits.parameters.1.1.0 (name-fits entity _ fits.handles.0.0) h
given-fits setup past _ given early fits h = absurd (none-some given h)

fits-ticket : (own : ℕ) (given : Ticketed) → IsHandle is_policy_session own → GivenFits given → FitsCommand (ticket_command own given)
unfolding ValuesFit Fits
fits-ticket own given handle fits =
    record { handles = ((handle.low, handle.kind), tt); area = tt; parameters = ((fits.deadline, refl), (tt, (fits.policy_ref, (fits.name, (fits.ticket, tt))))) }

-- what was given in the journal
given-success : (setup : Setup) (past : List Event) (command : Command) (outcome : Outcome) (given : Ticketed) → given_by setup past command outcome ≡ Some given → ticket_by (view_of setup past) command ≡ Some given
given-success setup past command outcome given h = at (is_success outcome) h
  where
    at : (b : Bool) → (if b then ticket_by (view_of setup past) command else None) ≡ Some given → ticket_by (view_of setup past) command ≡ Some given
    at true h = h
    at false h = absurd (none-some given h)

module _ (setup : Setup) (journal : List Event) (it : CommandIn journal) (given : Ticketed) (is : given_by setup it.earlier it.command it.outcome ≡ Some given) where
  pub given-ticket : IsAuthorizationTicket setup it.earlier given.deadline given.cp_hash given.policy_ref given.name given.ticket
  given-ticket = given-is setup it.earlier it.command given (given-success setup it.earlier it.command it.outcome given is)

  pub given-read : IsOfBytes it.buffer → time_of setup it.earlier ≤ 2 ^ 63 → (own : ℕ) → TakesAuthorization setup journal own given.cp_hash → reading (spelling (ticket_command own given)) ≡ Ok (ticket_command own given)
  given-read bytes early own takes =
      read-back (ticket_command own given)
      (fits-ticket own given (session-handle own (slot-handle own (live-slot setup journal own takes.state takes.live)))
      (given-fits setup it.earlier it.command given early (fits-in journal it bytes) (given-success setup it.earlier it.command it.outcome given is)))

  pub given-accepted : IsOfBytes it.buffer → time_of setup it.earlier ≤ 2 ^ 63 → (own locality : ℕ) → has_reset it.later ≡ false → TakesAuthorization setup journal own given.cp_hash → time_of setup journal ≤ given.deadline
      → (answer_to setup journal locality (spelling (ticket_command own given))).outcome ≡ Accepted
  given-accepted bytes early own locality quiet takes before =
      let event = events.Command it.client it.locality it.buffer it.reply it.outcome in
      let same : journal ≡ (it.later ++ event ∷ []) ++ it.earlier = it.there ∙ sym (append_assoc it.later (event ∷ []) it.earlier) in
      subst (λ (j : List Event). (answer_to setup j locality (spelling (ticket_command own given))).outcome ≡ Accepted) (sym same)
      (accepted setup it.earlier (it.later ++ event ∷ []) it.command given own locality (spelling (ticket_command own given)) takes.state
      (given-success setup it.earlier it.command it.outcome given is)
      (reset-more it.later it.client it.locality it.buffer it.reply it.outcome quiet)
      (subst (λ (j : List Event). state_at (view_of setup j).sessions own ≡ Some takes.state) same takes.live) takes.room takes.slot
      (subst (λ (j : List Event). time_of setup j ≤ given.deadline) same before)
      (given-read bytes early own takes))

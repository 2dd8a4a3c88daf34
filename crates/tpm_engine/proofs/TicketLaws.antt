-- Tickets: what a PolicySecret or PolicySigned answered is accepted by PolicyTicket.
use Rattle.std.proofs.Common.{◌≡◌, ℕ, ◌+◌, ◌<◌, ◌≤◌, ◌&&◌, ◌||◌, Bool, true, false, List, [], ◌∷◌, ◌++◌, length, Option, None, Some, is_some, Result, Ok, Err, nat_eq, nat_le, nat_lt, if◌then◌else◌, refl, ap, sym, subst, ◌∙◌, arith}
use Rattle.std.specs.Option.{option_and_then, option_map, option_map_or}
use Rattle.std.specs.Str.{bytes_eq}
use Rattle.std.proofs.lemmas.Bool.{false≢true}
use Rattle.std.proofs.lemmas.Bool.Decides.{nat_tests}
use Rattle.std.proofs.lemmas.Option.{none-some, same_Some}
use Rattle.std.proofs.lemmas.Slice.Eq.{bytes_eq-Decides}
use Rattle.tpol_base.specs.declared.command_code.CommandCode.TheVariants.{StartAuthSession}
use Rattle.tpol_base.specs.declared.digest.Digest32.{Digest32}
use Rattle.tpol_base.specs.declared.name.Name.{Name}
use Rattle.tpol_base.specs.CommandCode.{number_of_code}
use Rattle.tpol_base.specs.Constants.{st_auth_secret, st_auth_signed}
use Rattle.tpol_base.specs.Digest.{optional_bytes}
use Rattle.tpol_base.specs.Handle.{is_policy_session, rh_owner}
use Rattle.tpol_base.specs.ResponseCode.{of_parameter, rc_cphash, rc_expired, rc_session_memory, rc_ticket, reference_of_handle}
use Rattle.tpol_digest.specs.Update.{Update, update_of}
use Rattle.tpol_name.specs.declared.setup.Setup.{Setup}
use Rattle.tpol_tree.specs.declared.closed.Assertion.TheVariants.{Secret, Signed}
use Rattle.tpol_tree.specs.declared.path.Move.TheVariants.{Assert}
use Rattle.tpol_wire.specs.declared.command.Command.{Command}
use Rattle.tpol_wire.specs.declared.command.Command.TheVariants as commands
use Rattle.tpol_wire.specs.declared.reply.Reply.TheVariants as replies
use Rattle.tpol_fields.specs.declared.ticket.Ticket.{Ticket}
use Rattle.tpol_wire.specs.Reading.{reading}
use Rattle.tpol_wire.specs.ReplyReading.{reply_reading}
use Rattle.tpm_auth.specs.Tickets.{auth_ticket}
use Rattle.tpm_bindings.specs.State.{SessionState}
use Rattle.tpm_policy.specs.Judgments.{is_auth_ticket}
use Rattle.tpm_rules.specs.declared.outcome.Outcome.TheVariants.{Accepted}
use Rattle.tpm_rules.specs.PolicyTicket.{assertion_of_ticket}
use Rattle.tpm_rules.specs.Rule.{or_else, unless}
use Rattle.tpm_rules.specs.Slot.{takes_optional_cp_hash}
use Rattle.tpm_session.specs.Slots.{is_live, state_at}
use Rattle.tpm_world.specs.Entities.{handle_rule, name_at}
use Rattle.tpm_world.specs.Hashes.{proof_of}
use Rattle.tpm_world.specs.World.{WorldState}
use Rattle.tpm_engine.specs.declared.event.Event.{Event}
use Rattle.tpm_engine.specs.declared.event.Event.TheVariants as events
use Rattle.tpm_engine.specs.Answers.{answer, answer_to_reading, answer_unless, first_stop, own_rule, succeeding}
use Rattle.tpm_engine.specs.Deeds.{Idle, Starts, command_deed, deed_in, deed_of, started_session}
use Rattle.tpm_engine.specs.Events.{is_success}
use Rattle.tpm_engine.specs.Facts.{Moment, shown_by}
use Rattle.tpm_engine.specs.Legal.{answer_to}
use Rattle.tpm_engine.specs.PolicyCommands.{policy_command_reply, policy_rule, ticket_of}
use Rattle.tpm_engine.specs.Stops.{handles_stop, has_room, refuses, room_stop}
use Rattle.tpm_engine.specs.Tables.{TableState}
use Rattle.tpm_engine.specs.Tickets.{Ticketed, has_reset, is_reset, ticket_by, ticket_command, ticketed, told_ticket}
use Rattle.tpm_engine.specs.Views.{live_at, next_number, reset_count_after, reset_count_of, time_of, view_of, world_at}
use Rattle.tpm_engine.proofs.Lookups.{content-table, is_slot_handle}
use Rattle.tpm_engine.proofs.PcrsChanged.{or-false}
use Rattle.tpm_engine.proofs.SavedOnce.{slot-kind}

-- ---- the ticket that was answered

-- it is one of this machine, of one of the two kinds
record Gives (world : WorldState) (given : Ticketed) : Type 0 where
  kind : (nat_eq given.ticket.tag st_auth_secret || nat_eq given.ticket.tag st_auth_signed) ≡ true
  hierarchy : given.ticket.hierarchy ≡ rh_owner
  digest : given.ticket.digest ≡ (auth_ticket (proof_of world.seed) given.ticket.tag given.deadline world.reset_count (optional_bytes given.cp_hash) given.policy_ref given.name).bytes

gives-by : (world : WorldState) (tag : ℕ) (name : Name) (cp_hash : Option Digest32) (policy_ref : List ℕ) (timeout : Option ℕ) (given : Ticketed)
    → (nat_eq tag st_auth_secret || nat_eq tag st_auth_signed) ≡ true → option_map (ticketed world tag name cp_hash policy_ref) timeout ≡ Some given → Gives world given
gives-by world tag name cp_hash policy_ref None given kind h = absurd (none-some given h)
gives-by world tag name cp_hash policy_ref (Some deadline) given kind h =
    subst (Gives world) (same_Some _ _ h) (record { kind = kind; hierarchy = refl; digest = refl })

gives : (tables : TableState) (command : Command) (given : Ticketed) → ticket_by tables command ≡ Some given → Gives tables.world given
gives tables (commands.PolicySigned key session nonce cp_hash policy_ref expiration signature) given h =
    gives-by tables.world st_auth_signed (name_at tables.world key) cp_hash policy_ref _ given refl h
gives tables (commands.PolicySecret entity session auth nonce cp_hash policy_ref expiration) given h =
    gives-by tables.world st_auth_secret (name_at tables.world entity) cp_hash policy_ref _ given refl h
gives tables _ given h = absurd (none-some given h)

-- ---- the reply tells it, and tells none where none was given

abbrev told_of : Option Ticketed → Option (ℕ × Ticket)
told_of by = option_map (λ given. (given.deadline, given.ticket)) by

told-signed : (world : WorldState) (tag : ℕ) (name : Name) (cp_hash : Option Digest32) (policy_ref : List ℕ) (timeout : Option ℕ)
    → told_ticket (replies.PolicySigned timeout (ticket_of world tag name cp_hash policy_ref timeout)) ≡ told_of (option_map (ticketed world tag name cp_hash policy_ref) timeout)
told-signed world tag name cp_hash policy_ref None = refl
told-signed world tag name cp_hash policy_ref (Some deadline) = refl

told-secret : (world : WorldState) (tag : ℕ) (name : Name) (cp_hash : Option Digest32) (policy_ref : List ℕ) (timeout : Option ℕ)
    → told_ticket (replies.PolicySecret timeout (ticket_of world tag name cp_hash policy_ref timeout)) ≡ told_of (option_map (ticketed world tag name cp_hash policy_ref) timeout)
told-secret world tag name cp_hash policy_ref None = refl
told-secret world tag name cp_hash policy_ref (Some deadline) = refl

pub told : (tables : TableState) (command : Command) → told_ticket (policy_command_reply tables command) ≡ told_of (ticket_by tables command)
told tables (commands.PolicySigned key session nonce cp_hash policy_ref expiration signature) = told-signed tables.world st_auth_signed (name_at tables.world key) cp_hash policy_ref _
told tables (commands.PolicySecret entity session auth nonce cp_hash policy_ref expiration) = told-secret tables.world st_auth_secret (name_at tables.world entity) cp_hash policy_ref _
told tables _ = refl

-- ---- its fact hashes the same

abbrev updates : Moment → Command → Option Update
updates now command = option_map (λ shown. update_of (shown.1 now).act) (shown_by command)

same-ticket : (world : WorldState) (tag : ℕ) (name : Name) (cp_hash : Option Digest32) (policy_ref : List ℕ) (timeout : Option ℕ) (given : Ticketed) (later : Moment)
    → option_map (ticketed world tag name cp_hash policy_ref) timeout ≡ Some given
    → (other : ℕ) → updates later (ticket_command other given) ≡ Some (update_of (Assert (assertion_of_ticket tag name policy_ref cp_hash)))
same-ticket world tag name cp_hash policy_ref None given later h other = absurd (none-some given h)
same-ticket world tag name cp_hash policy_ref (Some deadline) given later h other = ap (λ (g : Ticketed). updates later (ticket_command other g)) (sym (same_Some _ _ h))

pub same : (tables : TableState) (command : Command) (given : Ticketed) (other : ℕ) (now later : Moment) → ticket_by tables command ≡ Some given → now.world ≡ tables.world
    → updates later (ticket_command other given) ≡ updates now command
same tables (commands.PolicySigned key session nonce cp_hash policy_ref expiration signature) given other now later h world =
    same-ticket tables.world st_auth_signed (name_at tables.world key) cp_hash policy_ref _ given later h other
    ∙ ap (λ (w : WorldState). Some (update_of (Assert (Signed (name_at w key) policy_ref cp_hash expiration)))) (sym world)
same tables (commands.PolicySecret entity session auth nonce cp_hash policy_ref expiration) given other now later h world =
    same-ticket tables.world st_auth_secret (name_at tables.world entity) cp_hash policy_ref _ given later h other
    ∙ ap (λ (w : WorldState). Some (update_of (Assert (Secret (name_at w entity) policy_ref cp_hash expiration)))) (sym world)
same tables _ given other now later h world = absurd (none-some given h)

-- ---- without a Reset the reset count stays

started-keeps : (session : Option ℕ) (count : ℕ) → reset_count_after (option_map_or Starts session Idle) count ≡ count
started-keeps None count = refl
started-keeps (Some session) count = refl

no-reset : (command : Command) (reply : List ℕ) (count : ℕ) → reset_count_after (command_deed command reply) count ≡ count
no-reset (commands.StartAuthSession tpm_key bind nonce) reply count =
    started-keeps (option_and_then (λ found. started_session found.0) (reply_reading (number_of_code StartAuthSession) reply)) count
no-reset _ reply count = refl

no-reset-read : (read : Result Command ℕ) (reply : List ℕ) (count : ℕ) → reset_count_after (deed_in read reply) count ≡ count
no-reset-read (Ok command) reply count = no-reset command reply count
no-reset-read (Err code) reply count = refl

no-reset-event : (event : Event) (count : ℕ) → is_reset event ≡ false → reset_count_after (deed_of event) count ≡ count
no-reset-event (events.Command client locality buffer reply outcome) count none = at (is_success outcome)
  where
    at : (b : Bool) → reset_count_after (if b then deed_in (reading buffer) reply else Idle) count ≡ count
    at true = no-reset-read (reading buffer) reply count
    at false = refl
no-reset-event (events.Time ms) count none = refl
no-reset-event (events.Presence on) count none = refl
no-reset-event events.Reset count none = absurd (false≢true (sym none))

same-count : (setup : Setup) (past later : List Event) → has_reset later ≡ false → reset_count_of setup (later ++ past) ≡ reset_count_of setup past
unfolding reset_count_of has_reset
same-count setup past [] none = refl
same-count setup past (event ∷ later) none =
    let parts = or-false (is_reset event) (has_reset later) none in
    no-reset-event event (reset_count_of setup (later ++ past)) parts.0 ∙ same-count setup past later parts.1

-- ---- it is accepted

within : (a b : ℕ) → a ≤ b → nat_le a b ≡ true
within a b h = grind (arith, nat_tests)

below : (a b : ℕ) → a < b → nat_lt a b ≡ true
below a b h = grind (arith, nat_tests)

ticket-right : (world before : WorldState) (given : Ticketed) → Gives before given → world.seed ≡ before.seed → world.reset_count ≡ before.reset_count
    → is_auth_ticket (proof_of world.seed) world.reset_count given.deadline given.cp_hash given.policy_ref given.name given.ticket.tag given.ticket.hierarchy given.ticket.digest ≡ true
ticket-right world before given gives seed count =
    let digest : given.ticket.digest ≡ (auth_ticket (proof_of world.seed) given.ticket.tag given.deadline world.reset_count (optional_bytes given.cp_hash) given.policy_ref given.name).bytes =
    gives.digest
    ∙ (ap (λ s. (auth_ticket (proof_of s) given.ticket.tag given.deadline before.reset_count (optional_bytes given.cp_hash) given.policy_ref given.name).bytes) (sym seed)
    ∙ ap (λ n. (auth_ticket (proof_of world.seed) given.ticket.tag given.deadline n (optional_bytes given.cp_hash) given.policy_ref given.name).bytes) (sym count)) in
    all (nat_eq given.ticket.tag st_auth_secret || nat_eq given.ticket.tag st_auth_signed) (nat_eq given.ticket.hierarchy rh_owner)
    (bytes_eq given.ticket.digest (auth_ticket (proof_of world.seed) given.ticket.tag given.deadline world.reset_count (optional_bytes given.cp_hash) given.policy_ref given.name).bytes)
    gives.kind (ap (λ h. nat_eq h rh_owner) gives.hierarchy) ((bytes_eq-Decides given.ticket.digest (auth_ticket (proof_of world.seed) given.ticket.tag given.deadline world.reset_count (optional_bytes given.cp_hash) given.policy_ref given.name).bytes).1 digest)
  where
    all : (a b c : Bool) → a ≡ true → b ≡ true → c ≡ true → (a && b && c) ≡ true
    all a b c ha hb hc = rw (ha, hb, hc) refl

rule-none : (world : WorldState) (own : ℕ) (given : Ticketed) (state : SessionState)
    → world.time ≤ given.deadline → takes_optional_cp_hash state.facts given.cp_hash ≡ true
    → is_auth_ticket (proof_of world.seed) world.reset_count given.deadline given.cp_hash given.policy_ref given.name given.ticket.tag given.ticket.hierarchy given.ticket.digest ≡ true
    → policy_rule world state (ticket_command own given) ≡ None
rule-none world own given state early slot right =
    ap (λ b. or_else (unless b (rc_expired + of_parameter 1))
    (or_else (unless (takes_optional_cp_hash state.facts given.cp_hash) rc_cphash)
    (unless (is_auth_ticket (proof_of world.seed) world.reset_count given.deadline given.cp_hash given.policy_ref given.name given.ticket.tag given.ticket.hierarchy given.ticket.digest) (rc_ticket + of_parameter 5))))
    (within world.time given.deadline early)
    ∙ (ap (λ b. or_else (unless b rc_cphash)
    (unless (is_auth_ticket (proof_of world.seed) world.reset_count given.deadline given.cp_hash given.policy_ref given.name given.ticket.tag given.ticket.hierarchy given.ticket.digest) (rc_ticket + of_parameter 5))) slot
    ∙ ap (λ b. unless b (rc_ticket + of_parameter 5)) right)

module _ (tables : TableState) (locality own : ℕ) (given : Ticketed) (state : SessionState)
    (kind : is_policy_session own ≡ true) (live : state_at tables.sessions own ≡ Some state) where
  handles-none : handles_stop tables (ticket_command own given) ≡ None
  handles-none =
      ap (λ b. or_else (if b then unless (is_live tables.sessions own) (refuses (reference_of_handle 1)) else option_map refuses (handle_rule tables.world 1 own)) None) kind
      ∙ ap (λ b. or_else (unless b (refuses (reference_of_handle 1))) None) (ap is_some live)

  room-none : length state.facts < 512 → room_stop tables (ticket_command own given) ≡ None
  room-none room = ap (option_and_then has_room) live ∙ ap (λ b. unless b (refuses rc_session_memory)) (below (length state.facts) 512 room)

  own-none : policy_rule tables.world state (ticket_command own given) ≡ None → own_rule tables (ticket_command own given) ≡ None
  own-none rule = ap (λ found. option_map_or (λ s. policy_rule tables.world s (ticket_command own given)) found (Some (reference_of_handle 1))) live ∙ rule

  -- no stop stands
  first-none : length state.facts < 512 → policy_rule tables.world state (ticket_command own given) ≡ None → first_stop tables locality (ticket_command own given) ≡ None
  first-none room rule =
      ap (λ h. or_else (or_else h (or_else None (or_else None (room_stop tables (ticket_command own given))))) (option_map refuses (own_rule tables (ticket_command own given)))) handles-none
      ∙ (ap (λ r. or_else (or_else None (or_else None (or_else None r))) (option_map refuses (own_rule tables (ticket_command own given)))) (room-none room)
      ∙ ap (option_map refuses) (own-none rule))

-- a live session has the handle of a slot
live-slot : (setup : Setup) (past : List Event) (own : ℕ) (state : SessionState) → state_at (view_of setup past).sessions own ≡ Some state → is_slot_handle own ≡ true
unfolding view_of
live-slot setup past own state live = at (is_slot_handle own) (sym (content-table (live_at setup past) own) ∙ live)
  where
    at : (b : Bool) → (if b then live_at setup past own else None) ≡ Some state → b ≡ true
    at true h = refl
    at false h = absurd (none-some state h)

pub accepted : (setup : Setup) (past later : List Event) (command : Command) (given : Ticketed) (own locality : ℕ) (buffer : List ℕ) (state : SessionState)
    → ticket_by (view_of setup past) command ≡ Some given → has_reset later ≡ false
    → state_at (view_of setup (later ++ past)).sessions own ≡ Some state → length state.facts < 512
    → takes_optional_cp_hash state.facts given.cp_hash ≡ true → time_of setup (later ++ past) ≤ given.deadline
    → reading buffer ≡ Ok (ticket_command own given)
    → (answer_to setup (later ++ past) locality buffer).outcome ≡ Accepted
unfolding view_of world_at answer
accepted setup past later command given own locality buffer state h quiet live room slot early reads =
    let right = ticket-right (view_of setup (later ++ past)).world (view_of setup past).world given (gives (view_of setup past) command given h) refl (same-count setup past later quiet) in
    let rule = rule-none (view_of setup (later ++ past)).world own given state early slot right in
    let none = first-none (view_of setup (later ++ past)) locality own given state (slot-kind own (live-slot setup (later ++ past) own state live)) live room rule in
    ap (λ read. (answer_to_reading (view_of setup (later ++ past)) (next_number (later ++ past)) locality read).outcome) reads
    ∙ ap (λ first. (answer_unless first (succeeding (view_of setup (later ++ past)) (next_number (later ++ past)) (ticket_command own given))).outcome) none

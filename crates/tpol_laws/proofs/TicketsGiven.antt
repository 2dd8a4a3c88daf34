-- Which ticket a reply in a journal tells: the one that the machine gives, and none where the command fails.
use Rattle.std.proofs.Common.{◌≡◌, ◌≤◌, ◌<◌, ◌⊎◌, inl, inr, ℕ, ◌+◌, ◌*◌, ◌^◌, ◌&&◌, Bool, true, false, List, [], ◌∷◌, length, nat_eq, if◌then◌else◌, refl, ap, sym, subst, ◌∙◌, arith}
use Rattle.std.specs.Prelude.{ℤ, pos, negsuc, unsigned_abs, FitsSigned, Option, Some, None, int_lt, option_map, Ok}
use Rattle.std.specs.Int.{w32}
use Rattle.std.specs.Option.{option_and_then, option_map_or}
use Rattle.std.proofs.lemmas.Bool.{eq-eqb, false≢true}
use Rattle.std.proofs.lemmas.Option.{none-some, same_Some}
use Rattle.tpm_auth.specs.SessionMacs.{reply_mac}
use Rattle.tpm_bindings.specs.declared.last_auth.LastAuth.{LastAuth}
use Rattle.tpm_bindings.specs.declared.last_auth.LastAuth.TheVariants as lasts
use Rattle.tpm_bindings.specs.Facts.{last_auth}
use Rattle.tpm_bindings.specs.State.{SessionState}
use Rattle.tpm_engine.specs.declared.event.Event.{Event}
use Rattle.tpm_engine.specs.declared.event.Event.TheVariants as events
use Rattle.tpm_engine.specs.declared.stop.Stop.{Stop}
use Rattle.tpm_engine.specs.Answers.{first_stop, own_rule, stopped, succeeding}
use Rattle.tpm_engine.specs.Authorization.{area_stop, authorization_stop, authorized_entity, entity_stop, number_of_command, password_area, password_stop, policy_stop, reply_area, reply_hmac, session_area}
use Rattle.tpm_engine.specs.Deeds.{Deed, Ends, Extends, Idle, Increments, Loads, Passes, Resets, Restarts, Saves, SessionUse, Shifts, Shows, Starts, Writes, deed_of, use_of}
use Rattle.tpm_engine.specs.Events.{Answered, is_success}
use Rattle.tpm_engine.specs.Legal.{IsLegal, answer_to}
use Rattle.tpm_engine.specs.PolicyCommands.{has_timeout, policy_command_reply, policy_start, ticket_digest, ticket_of, timeout_of}
use Rattle.tpm_engine.specs.Stops.{handles_stop, refuses, room_stop, session_stop}
use Rattle.tpm_engine.specs.Tables.{TableState}
use Rattle.tpm_engine.specs.Tickets.{Ticketed, ticket_by, ticketed, told_ticket}
use Rattle.tpm_engine.specs.Views.{held_after, held_used, is_held, live_at, live_slot, next_number, sequence_of, session_state, start_after, start_of, time_after, time_of, view_of, world_at}
use Rattle.tpm_engine.proofs.Lookups.{content-table, is_slot_handle, live-view}
use Rattle.tpm_engine.proofs.Serving.{success-is}
use Rattle.tpm_engine.proofs.Stopping.{or_else-none}
use Rattle.tpm_engine.proofs.TicketLaws.{told}
use Rattle.tpm_rules.specs.Deadline.{counted_from, milliseconds}
use Rattle.tpm_rules.specs.Entity.{Entity, auth_value_of}
use Rattle.tpm_session.specs.Slots.{state_at}
use Rattle.tpm_world.specs.Entities.{name_at}
use Rattle.tpm_world.specs.Hashes.{nonce_of_event}
use Rattle.tpm_world.specs.World.{WorldState}
use Rattle.tpol_base.specs.declared.digest.Digest32.{Digest32}
use Rattle.tpol_base.specs.declared.name.Name.{Name}
use Rattle.tpol_base.specs.Constants.{st_auth_secret, st_auth_signed}
use Rattle.tpol_base.specs.Handle.{rs_pw}
use Rattle.tpol_base.specs.ResponseCode.{rc_reference_s0, reference_of_handle}
use Rattle.tpol_fields.specs.declared.ticket.Ticket.{Ticket}
use Rattle.tpol_fields.specs.Kinds.{Fits, TimedTicket, TimeoutFits}
use Rattle.tpol_name.specs.declared.setup.Setup.{Setup}
use Rattle.tpol_wire.specs.declared.auth_area.AuthArea.{AuthArea}
use Rattle.tpol_wire.specs.declared.auth_area.ReplyAuth.{ReplyAuth}
use Rattle.tpol_wire.specs.declared.command.Command.{Command}
use Rattle.tpol_wire.specs.declared.command.Command.TheVariants as commands
use Rattle.tpol_wire.specs.declared.reply.Reply.{Reply}
use Rattle.tpol_wire.specs.Authorizations.{AreaFits, ReplyAuthFits}
use Rattle.tpol_wire.specs.Commands.{FitsCommand, ValuesFit}
use Rattle.tpol_wire.specs.Hashes.{rp_hash}
use Rattle.tpol_wire.specs.Reading.{reading}
use Rattle.tpol_wire.specs.Replies.{spell_reply}
use Rattle.tpol_wire.specs.ReplyReading.{reply_reading}
use Rattle.tpol_wire.proofs.CommandLaws.{command_found}
use Rattle.tpol_wire.proofs.ReplyLaws.{reply_read}
use Rattle.tpol_laws.specs.JournalTickets.{CommandIn, IsAuthorizationTicket, IsOfBytes, given_by, ticket_told}
use Rattle.tpol_laws.proofs.Answered.{on-answer, refusal-read, stop-code, stop-fails}
use Rattle.tpol_laws.proofs.Codes.{IsCode, first-coded, rules-coded}
use Rattle.tpol_laws.proofs.Decided.{legal-at}

-- ---- commands in a legal journal

module _ (setup : Setup) (journal : List Event) (it : CommandIn journal) (legal : IsLegal setup journal) where
  pub answered-in : answer_to setup it.earlier it.locality it.buffer ≡ record { reply = it.reply; outcome = it.outcome }
  answered-in =
      legal-at setup it.later it.earlier (events.Command it.client it.locality it.buffer it.reply it.outcome) (subst (IsLegal setup) it.there legal)

pub fits-in : (journal : List Event) (it : CommandIn journal) → IsOfBytes it.buffer → FitsCommand it.command
fits-in journal it bytes = (command_found it.buffer it.command bytes it.reads).fits

-- ---- deadlines have eight bytes

-- a session that is held did not start later than now
used-held : (used : Option SessionUse) (session : ℕ) (held : Bool) → held_used used session held ≡ true → held ≡ true
used-held None session held h = h
used-held (Some served) session held h = at (nat_eq served.session session) served.keep held h
  where
    at : (b keep held : Bool) → (if b then keep && held else held) ≡ true → held ≡ true
    at true true held h = h
    at true false held h = absurd (false≢true h)
    at false keep held h = h

start-by : (deed : Deed) (session time start : ℕ) (held : Bool) → (held ≡ true → start ≤ time) → held_after deed session held ≡ true → start_after deed session time start ≤ time_after deed time
start-by (Starts started) session time start held earlier h = at (nat_eq started session) h
  where
    at : (b : Bool) → (if b then true else held) ≡ true → (if b then time else start) ≤ time
    at true h = omega arith
    at false h = earlier h
start-by (Ends ended) session time start held earlier h = at (nat_eq ended session) h
  where
    at : (b : Bool) → (if b then false else held) ≡ true → start ≤ time
    at true h = absurd (false≢true h)
    at false h = earlier h
start-by (Passes ms) session time start held earlier h = let before = earlier h in omega (arith, before)
start-by Resets session time start held earlier h = absurd (false≢true h)
start-by Idle session time start held earlier h = earlier h
start-by (Shifts on) session time start held earlier h = earlier h
start-by (Extends pcr digest) session time start held earlier h = earlier h
start-by (Writes index offset bytes) session time start held earlier h = earlier h
start-by (Increments index) session time start held earlier h = earlier h
start-by (Restarts restarted) session time start held earlier h = earlier h
start-by (Saves saved) session time start held earlier h = earlier h
start-by (Loads loaded) session time start held earlier h = earlier h
start-by (Shows shown fact) session time start held earlier h = earlier h

started-before : (setup : Setup) (past : List Event) (session : ℕ) → is_held past session ≡ true → start_of setup past session ≤ time_of setup past
unfolding is_held start_of time_of
started-before setup [] session held = absurd (false≢true held)
started-before setup (event ∷ past) session held =
    start-by (deed_of event) session (time_of setup past) (start_of setup past session) (is_held past session) (started-before setup past session)
    (used-held (use_of event) session (held_after (deed_of event) session (is_held past session)) held)

live-held : (slot held : Bool) (sequence : Option ℕ) (state found : SessionState) → (if slot then live_slot held sequence state else None) ≡ Some found → held ≡ true
live-held true true sequence state found h = refl
live-held true false sequence state found h = absurd (none-some found h)
live-held false held sequence state found h = absurd (none-some found h)

-- so does a live one
state-before : (setup : Setup) (past : List Event) (own : ℕ) (state : SessionState) → state_at (view_of setup past).sessions own ≡ Some state → state.start ≤ time_of setup past
unfolding view_of session_state
state-before setup past own state live =
    let held = live-held (is_slot_handle own) (is_held past own) (sequence_of past own) (session_state setup past own) state (sym (content-table (live_at setup past) own) ∙ live) in
    let same : state.start ≡ start_of setup past own = ap (λ (s : SessionState). s.start) (live-view setup past own state live) in
    let before = started-before setup past own held in
    omega (arith, same, before)

pub start-before : (setup : Setup) (past : List Event) (own : ℕ) → option_map_or (λ (state : SessionState). state.start) (state_at (view_of setup past).sessions own) 0 ≤ time_of setup past
start-before setup past own = by (state_at (view_of setup past).sessions own) refl
  where
    by : (o : Option SessionState) → state_at (view_of setup past).sessions own ≡ o → option_map_or (λ (state : SessionState). state.start) o 0 ≤ time_of setup past
    by None e = omega arith
    by (Some state) e = state-before setup past own state e

seconds-few : (expiration : ℤ) → FitsSigned w32 expiration → unsigned_abs expiration ≤ 2 ^ 31
seconds-few (pos n) fits = let few : n < 2 ^ 31 = fits.sfits in omega (arith, few)
seconds-few (negsuc n) fits = let few : n < 2 ^ 31 = fits.sfits in omega (arith, few)

counted-before : (start : ℕ) (nonce : List ℕ) → counted_from start nonce ≤ start
counted-before start [] = omega arith
counted-before start (byte ∷ nonce) = omega arith

pub timeout-fits : (start : ℕ) (nonce : List ℕ) (expiration : ℤ) → start ≤ 2 ^ 63 → FitsSigned w32 expiration → TimeoutFits (timeout_of start nonce expiration)
timeout-fits start nonce expiration early fits =
    let few = seconds-few expiration fits in
    let from = counted-before start nonce in
    at (int_lt expiration (pos 0)) (nat_eq (unsigned_abs expiration) 0) (omega (arith, few, from, early))
  where
    at : (a b : Bool) → counted_from start nonce + 1000 * unsigned_abs expiration < 2 ^ 64 → TimeoutFits (if a then (if b then None else Some (counted_from start nonce + milliseconds expiration)) else None)
    at false b few = tt
    at true true few = tt
    at true false few = few

pub timed-fits : (world : WorldState) (tag : ℕ) (name : Name) (cp_hash : Option Digest32) (policy_ref : List ℕ) (given : Option ℕ) → tag < 2 ^ 16 → TimeoutFits given
    → Fits (TimedTicket tag) (given, ticket_of world tag name cp_hash policy_ref given)
unfolding Fits
timed-fits world tag name cp_hash policy_ref None small within =
    let same : nat_eq tag tag ≡ true = eq-eqb tag tag refl in
    (tt, record { tag = small; hierarchy = omega arith; digest = omega arith }, rw same refl)
timed-fits world tag name cp_hash policy_ref (Some deadline) small within =
    let same : nat_eq tag tag ≡ true = eq-eqb tag tag refl in
    let whole : nat_eq (length (ticket_digest world tag name cp_hash policy_ref deadline).bytes) 32 ≡ true = eq-eqb _ 32 (ticket_digest world tag name cp_hash policy_ref deadline).whole in
    let short : length (ticket_digest world tag name cp_hash policy_ref deadline).bytes ≤ 64 = omega (arith, (ticket_digest world tag name cp_hash policy_ref deadline).whole) in
    (within, record { tag = small; hierarchy = omega arith; digest = short }, rw (same, whole) refl)

-- ---- the authorization of the reply

pub record There {A B : Type 0} (rule : A → Option B) (o : Option A) : Type 0 where
  pub value : A
  pub is : o ≡ Some value
  pub holds : rule value ≡ None

pub there : {A B : Type 0} (rule : A → Option B) (o : Option A) (missing : B) → option_map_or rule o (Some missing) ≡ None → There rule o
there rule None missing h = absurd (none-some missing (sym h))
there rule (Some x) missing h = record { value = x; is = refl; holds = h }

record AuthIs (o : Option ReplyAuth) : Type 0 where
  auth : ReplyAuth
  is : o ≡ Some auth
  fits : ReplyAuthFits auth

hmac-fits : (last : LastAuth) (value given : List ℕ) (mac : List ℕ → Digest32) → length (reply_hmac last value given mac) ≤ 64
hmac-fits lasts.Password value given mac = omega arith
hmac-fits lasts.AuthValue value given mac = at (nat_eq (length value) 0 && nat_eq (length given) 0)
  where
    at : (b : Bool) → length (if b then [] else (mac value).bytes) ≤ 64
    at true = omega arith
    at false = omega (arith, (mac value).whole)
hmac-fits lasts.Neither value given mac = at (nat_eq (length given) 0)
  where
    at : (b : Bool) → length (if b then [] else (mac []).bytes) ≤ 64
    at true = omega arith
    at false = omega (arith, (mac []).whole)

module _ (tables : TableState) (number locality : ℕ) (command : Command) (reply : Reply) (area : AuthArea) (fits : AreaFits area) where
  session-auth : (entity : Entity) → authorized_entity tables command ≡ Some entity → (state : SessionState) → state_at tables.sessions area.session ≡ Some state → nat_eq area.session rs_pw ≡ false
      → AuthIs (reply_area tables number command reply area)
  session-auth entity has state live other =
      let few = fits.attributes in
      record {
        auth = session_area tables number command reply area entity state;
        is = ap (λ b. if b then Some password_area else option_and_then (λ (e : Entity). option_map (session_area tables number command reply area e) (state_at tables.sessions area.session)) (authorized_entity tables command)) other
            ∙ ap (option_and_then (λ (e : Entity). option_map (session_area tables number command reply area e) (state_at tables.sessions area.session))) has
            ∙ ap (option_map (session_area tables number command reply area entity)) live;
        fits = record {
          nonce = omega (arith, (nonce_of_event tables.world.seed number).whole);
          attributes = omega (arith, few);
          hmac = hmac-fits (last_auth state.facts) (auth_value_of entity) area.hmac (λ key. reply_mac key (rp_hash (number_of_command command) reply) (nonce_of_event tables.world.seed number) area.nonce area.attributes);
        };
      }

  auth-is : area_stop tables locality command area ≡ None → AuthIs (reply_area tables number command reply area)
  auth-is none =
      let found = there (entity_stop tables locality command area) (authorized_entity tables command) (refuses (reference_of_handle 1)) none in
      by (nat_eq area.session rs_pw) refl found.value found.is found.holds
    where
      by : (b : Bool) → nat_eq area.session rs_pw ≡ b → (entity : Entity) → authorized_entity tables command ≡ Some entity
          → (if b then password_stop entity (number_of_command command) area.hmac else option_map_or (policy_stop tables locality command area entity) (state_at tables.sessions area.session) (Some (refuses rc_reference_s0))) ≡ None
          → AuthIs (reply_area tables number command reply area)
      by true e entity has passes = record {
        auth = password_area;
        is = ap (λ b. if b then Some password_area else option_and_then (λ (e : Entity). option_map (session_area tables number command reply area e) (state_at tables.sessions area.session)) (authorized_entity tables command)) e;
        fits = record { nonce = omega arith; attributes = omega arith; hmac = omega arith };
      }
      by false e entity has passes =
          let state = there (policy_stop tables locality command area entity) (state_at tables.sessions area.session) (refuses rc_reference_s0) passes in
          session-auth entity has state.value state.is e

-- ---- what is told

-- a ticket with its deadline
abbrev told_of : Option Ticketed → Option (ℕ × Ticket)
told_of given = option_map (λ (g : Ticketed). (g.deadline, g.ticket)) given

abbrev Tells : TableState → Command → Answered → Type 0
Tells tables command answered =
    ticket_told command answered.reply ≡ told_of (if is_success answered.outcome then ticket_by tables command else None)

stopped-tells : (tables : TableState) (command : Command) (stop : Stop) → IsCode stop.code → is_success stop.outcome ≡ false → Tells tables command (stopped stop)
stopped-tells tables command stop is fails =
    ap (λ (read : Option (Reply × Option ReplyAuth)). option_and_then told_ticket (option_map (λ (r : Reply × Option ReplyAuth). r.0) read)) (refusal-read (number_of_command command) stop.code is)
    ∙ sym (ap (λ b. told_of (if b then ticket_by tables command else None)) fails)

-- of a reply that is read as the command's
read-tells : (tables : TableState) (number : ℕ) (command : Command) (auth : Option ReplyAuth)
    → reply_reading (number_of_command command) (succeeding tables number command).reply ≡ Some (policy_command_reply tables command, auth) → Tells tables command (succeeding tables number command)
read-tells tables number command auth reads =
    ap (λ (read : Option (Reply × Option ReplyAuth)). option_and_then told_ticket (option_map (λ (r : Reply × Option ReplyAuth). r.0) read)) reads
    ∙ told tables command
    ∙ sym (ap (λ b. told_of (if b then ticket_by tables command else None)) (success-is command))

-- the authorization that nothing stops
authorized : (tables : TableState) (locality : ℕ) (command : Command) → first_stop tables locality command ≡ None → authorization_stop tables locality command ≡ None
authorized tables locality command none =
    let early = (or_else-none _ (option_map refuses (own_rule tables command)) none).0 in
    let behind = (or_else-none (handles_stop tables command) _ early).1 in
    let later = (or_else-none (session_stop tables command) _ behind).1 in
    (or_else-none (authorization_stop tables locality command) (room_stop tables command) later).0

module _ (setup : Setup) (past : List Event) (locality : ℕ) (early : time_of setup past ≤ 2 ^ 63) where
  done-tells : (command : Command) → FitsCommand command → has_timeout command ≡ true → first_stop (view_of setup past) locality command ≡ None
      → Tells (view_of setup past) command (succeeding (view_of setup past) (next_number past) command)
  unfolding ValuesFit Fits
  done-tells (commands.PolicySigned key own nonce cp_hash policy_ref expiration signature) fits timed none =
      let tables = view_of setup past in
      let command = commands.PolicySigned key own nonce cp_hash policy_ref expiration signature in
      let start = start-before setup past own in
      let within = timeout-fits (policy_start (view_of setup past) (commands.PolicySigned key own nonce cp_hash policy_ref expiration signature)) nonce expiration (omega (arith, start, early)) fits.parameters.1.1.1.0 in
      let ticket = timed-fits (view_of setup past).world st_auth_signed (name_at (view_of setup past).world key) cp_hash policy_ref _ (omega arith) within in
      read-tells tables (next_number past) command None
      (reply_read (number_of_command command) _ (policy_command_reply (view_of setup past) (commands.PolicySigned key own nonce cp_hash policy_ref expiration signature)) None
      (record { whole = refl; fits = ((ticket, tt), refl); answers = refl }))
  done-tells (commands.PolicySecret entity own auth nonce cp_hash policy_ref expiration) fits timed none =
      let tables = view_of setup past in
      let command = commands.PolicySecret entity own auth nonce cp_hash policy_ref expiration in
      let reply = policy_command_reply (view_of setup past) (commands.PolicySecret entity own auth nonce cp_hash policy_ref expiration) in
      let start = start-before setup past own in
      let within = timeout-fits (policy_start (view_of setup past) (commands.PolicySecret entity own auth nonce cp_hash policy_ref expiration)) nonce expiration (omega (arith, start, early)) fits.parameters.1.1.1.0 in
      let ticket = timed-fits (view_of setup past).world st_auth_secret (name_at (view_of setup past).world entity) cp_hash policy_ref _ (omega arith) within in
      let area = auth-is (view_of setup past) (next_number past) locality (commands.PolicySecret entity own auth nonce cp_hash policy_ref expiration) reply auth fits.area
      (authorized (view_of setup past) locality (commands.PolicySecret entity own auth nonce cp_hash policy_ref expiration) none) in
      read-tells tables (next_number past) command (Some area.auth)
      (reply_read (number_of_command command) _ reply (Some area.auth)
      (record { whole = ap (spell_reply reply) area.is; fits = ((ticket, tt), area.fits); answers = refl }))
  done-tells command fits timed none = absurd (false≢true timed)

  answer-tells : (buffer : List ℕ) (command : Command) → reading buffer ≡ Ok command → FitsCommand command → has_timeout command ≡ true → Tells (view_of setup past) command (answer_to setup past locality buffer)
  answer-tells buffer command reads fits timed =
      on-answer (Tells (view_of setup past) command) (view_of setup past) (next_number past) locality buffer command reads
      (λ stop stops. stopped-tells (view_of setup past) command stop
      (stop-code (first_stop (view_of setup past) locality command) stop (first-coded (view_of setup past) locality command (rules-coded (view_of setup past) command)) stops)
      (stop-fails (view_of setup past) locality command stop stops))
      (λ first. done-tells command fits timed first)

pub told-in : (setup : Setup) (journal : List Event) (it : CommandIn journal) → IsLegal setup journal → IsOfBytes it.buffer → time_of setup it.earlier ≤ 2 ^ 63 → has_timeout it.command ≡ true
    → ticket_told it.command it.reply ≡ told_of (given_by setup it.earlier it.command it.outcome)
told-in setup journal it legal bytes early timed =
    subst (Tells (view_of setup it.earlier) it.command) (answered-in setup journal it legal)
    (answer-tells setup it.earlier it.locality early it.buffer it.command it.reads (fits-in journal it bytes) timed)

-- ---- the ticket that is given

given-by : (setup : Setup) (past : List Event) (tag : ℕ) (name : Name) (cp_hash : Option Digest32) (policy_ref : List ℕ) (timeout : Option ℕ) (given : Ticketed) → (tag ≡ st_auth_secret) ⊎ (tag ≡ st_auth_signed)
    → option_map (ticketed (view_of setup past).world tag name cp_hash policy_ref) timeout ≡ Some given → IsAuthorizationTicket setup past given.deadline given.cp_hash given.policy_ref given.name given.ticket
unfolding view_of world_at
given-by setup past tag name cp_hash policy_ref None given kind h = absurd (none-some given h)
given-by setup past tag name cp_hash policy_ref (Some deadline) given kind h =
    subst (λ (g : Ticketed). IsAuthorizationTicket setup past g.deadline g.cp_hash g.policy_ref g.name g.ticket) (same_Some _ _ h) (record { kind = kind; hierarchy = refl; digest = refl })

pub given-is : (setup : Setup) (past : List Event) (command : Command) (given : Ticketed) → ticket_by (view_of setup past) command ≡ Some given
    → IsAuthorizationTicket setup past given.deadline given.cp_hash given.policy_ref given.name given.ticket
given-is setup past (commands.PolicySigned key own nonce cp_hash policy_ref expiration signature) given h =
    given-by setup past st_auth_signed (name_at (view_of setup past).world key) cp_hash policy_ref _ given (inr refl) h
given-is setup past (commands.PolicySecret entity own auth nonce cp_hash policy_ref expiration) given h =
    given-by setup past st_auth_secret (name_at (view_of setup past).world entity) cp_hash policy_ref _ given (inl refl) h
given-is setup past _ given h = absurd (none-some given h)

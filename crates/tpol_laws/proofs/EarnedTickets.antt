-- The tickets that a run earns are the machine's: their digests are those of their fields.
use Rattle.std.proofs.Common.{◌≡◌, ◌<◌, ◌^◌, ℕ, true, false, List, [], ◌∷◌, ◌++◌, map, refl, ap, sym, subst, ◌∙◌, arith, slice_get}
use Rattle.std.specs.Prelude.{ℤ, ⊤, Option, Some, None, is_some}
use Rattle.std.specs.Int.{to_be_bytes, w16, w32}
use Rattle.std.specs.List.{AllByRecursion}
use Rattle.std.specs.Option.{option_map, option_map_or}
use Rattle.std.proofs.lemmas.Bool.{false≢true}
use Rattle.tpol_base.proofs.Digests.{digest_again}
use Rattle.tpol_base.specs.declared.command_code.CommandCode.TheVariants as codes
use Rattle.tpol_base.specs.declared.digest.Digest32.{Digest32}
use Rattle.tpol_base.specs.declared.name.Name.{Name}
use Rattle.tpol_base.specs.CommandCode.{number_of_code}
use Rattle.tpol_base.specs.Constants.{st_auth_secret, st_auth_signed}
use Rattle.tpol_base.specs.Digest.{digest_of_bytes, optional_bytes}
use Rattle.tpol_base.specs.Handle.{is_index, rh_owner, rs_pw}
use Rattle.tpol_base.specs.Name.{name_bytes}
use Rattle.tpol_base.specs.Sized.{sized}
use Rattle.tpol_digest.specs.Laws.{MoveHasBounds}
use Rattle.tpol_driver.specs.declared.session.Session.{Session}
use Rattle.tpol_driver.specs.declared.tickets.HeldTicket.{HeldTicket}
use Rattle.tpol_driver.specs.Answers.{answer_of, answer_of_reply}
use Rattle.tpol_driver.specs.Commands.{command_of_move, key_of, or_null, password_area}
use Rattle.tpol_driver.specs.Driving.{Closing, Drive, Ends, Moving, Over, Sends, Standing, Starting, is_verification, next_command, sends}
use Rattle.tpol_driver.specs.Plans.{is_granted_key, is_known_move}
use Rattle.tpol_driver.specs.Tickets.{earned_from, earned_in, earned_ticket, tag_of_ticket, ticket_command, ticket_for}
use Rattle.tpol_fields.specs.declared.ticket.Ticket.{Ticket}
use Rattle.tpol_fields.specs.Kinds.{Fits, TimedTicket, spell, ticket_bytes, timeout_bytes}
use Rattle.tpol_goal.specs.Entities.{entity_of_name, object_of_name}
use Rattle.tpol_hash.specs.Hmac.{hmac_sha256}
use Rattle.tpol_name.specs.declared.entries.DirEntry.{DirEntry}
use Rattle.tpol_name.specs.declared.setup.Setup.{Setup}
use Rattle.tpol_name.specs.Directories.{directory_of}
use Rattle.tpol_perform.specs.Tickets.{is_of_index}
use Rattle.tpol_runs.specs.Earned.{counted, earned_at}
use Rattle.tpol_tree.specs.declared.closed.Assertion.{Assertion}
use Rattle.tpol_tree.specs.declared.closed.Assertion.TheVariants as assertions
use Rattle.tpol_tree.specs.declared.path.Move.{Move}
use Rattle.tpol_tree.specs.declared.path.Move.TheVariants.{Assert}
use Rattle.tpol_tree.specs.declared.facts.Fact.{Fact}
use Rattle.tpol_wire.specs.declared.auth_area.AuthArea.{AuthArea}
use Rattle.tpol_wire.specs.declared.auth_area.ReplyAuth.{ReplyAuth}
use Rattle.tpol_wire.specs.declared.command.Command.{Command}
use Rattle.tpol_wire.specs.declared.command.Command.TheVariants as commands
use Rattle.tpol_wire.specs.declared.reply.Reply.{Reply}
use Rattle.tpol_wire.specs.declared.reply.Reply.TheVariants as replies
use Rattle.tpol_wire.specs.Commands.{FitsCommand, ValuesFit, code_of_command, spell_values, spelling, tag}
use Rattle.tpol_wire.specs.Replies.{reply_body, spell_reply}
use Rattle.tpol_wire.specs.ReplyReading.{reply_reading}
use Rattle.tpol_wire.specs.Spellings.{message_bytes}
use Rattle.tpol_wire.proofs.ReplyLaws.{reply_read}
use Rattle.tpm_auth.specs.Signatures.{signature_of, signed_hash}
use Rattle.tpm_auth.specs.Tickets.{auth_ticket}
use Rattle.tpm_engine.specs.declared.event.Event.{Event}
use Rattle.tpm_engine.specs.Answers.{first_stop, succeeding}
use Rattle.tpm_engine.specs.Authorization.{password_area as answer_area}
use Rattle.tpm_engine.specs.Deeds.{Deed, Shows, deed_of}
use Rattle.tpm_engine.specs.Events.{Answered, event_of}
use Rattle.tpm_engine.specs.Facts.{Moment}
use Rattle.tpm_engine.specs.PolicyCommands.{policy_start, ticket_of, timeout_of}
use Rattle.tpm_engine.specs.Tables.{TableState}
use Rattle.tpm_engine.specs.Views.{next_number, reset_count_after, reset_count_of, view_of, world_at}
use Rattle.tpm_session.specs.Slots.{IsSlotHandle}
use Rattle.tpm_world.specs.Entities.{name_at}
use Rattle.tpm_world.specs.Hashes.{proof_of}
use Rattle.tpm_world.specs.World.{WorldState}
use Rattle.tpol_laws.specs.Acts.{Run, answer_in, event_in}
use Rattle.tpol_laws.specs.HeldTickets.{TicketHasBounds}
use Rattle.tpol_laws.specs.Runs.{IsRun}
use Rattle.tpol_laws.proofs.Answered.{done-deed, on-answer, read-back, refusal-read, stop-code}
use Rattle.tpol_laws.proofs.Codes.{first-coded, rules-coded}
use Rattle.tpol_laws.proofs.Finds.{all-at}
use Rattle.tpol_laws.proofs.Heard.{Timed, area-fits, password-auth, timed}
use Rattle.tpol_laws.proofs.HeldTickets.{found-each, found-stands, held-command, own-ticket, plain-command}
use Rattle.tpol_laws.proofs.Named.{entity-found, object-found}
use Rattle.tpol_laws.proofs.Own.{TicketIsFit, object-name-at, own-move}
use Rattle.tpol_laws.proofs.ReadBack.{Knows}
use Rattle.tpol_laws.proofs.Step.{is-of, known-at}
use Rattle.tpol_laws.proofs.TicketPasses.{lasting-name}

-- ---- one that was earned

-- its digest is the machine's for its fields; of a secret's on an index that is not said
pub record IsEarned (setup : Setup) (held : HeldTicket) : Type 0 where
  pub bounds : TicketHasBounds held
  pub digest : is_of_index (directory_of setup) held ≡ false
      → held.digest ≡ auth_ticket (proof_of setup.seed) (tag_of_ticket held.signed) held.deadline held.reset_count (optional_bytes held.cp_hash) held.policy_ref held.key

-- ---- the tickets of replies

-- a reply tells this deadline, and a ticket for it
record IsAnswered (world : WorldState) (tag : ℕ) (name : Name) (cp_hash : Option Digest32) (policy_ref : List ℕ) (given : Option ℕ) (deadline : ℕ) : Type 0 where
  small : deadline < 2 ^ 64
  digest : digest_of_bytes (ticket_of world tag name cp_hash policy_ref given).digest ≡ auth_ticket (proof_of world.seed) tag deadline world.reset_count (optional_bytes cp_hash) policy_ref name

answered-by : (world : WorldState) (tag : ℕ) (name : Name) (cp_hash : Option Digest32) (policy_ref : List ℕ) (given : Option ℕ) (deadline : ℕ) → timeout_bytes given ≡ timeout_bytes (Some deadline)
    → Fits (TimedTicket tag) (Some deadline, ticket_of world tag name cp_hash policy_ref given) → IsAnswered world tag name cp_hash policy_ref given deadline
unfolding Fits
answered-by world tag name cp_hash policy_ref None deadline same fits = absurd cc
answered-by world tag name cp_hash policy_ref (Some n) deadline same fits = record {
  small = fits.0;
  digest = digest_again (auth_ticket (proof_of world.seed) tag n world.reset_count (optional_bytes cp_hash) policy_ref name)
      ∙ ap (λ (bytes : List ℕ). hmac_sha256 (proof_of world.seed).bytes
      (to_be_bytes w16 tag ++ bytes ++ to_be_bytes w32 world.reset_count ++ sized (optional_bytes cp_hash) ++ sized policy_ref ++ sized (name_bytes name))) same;
}

-- ---- what is read of the replies

module _ (tables : TableState) (number entity own : ℕ) (auth : AuthArea) (nonce : List ℕ) (cp_hash : Option Digest32) (policy_ref : List ℕ) (expiration : ℤ) (area : auth.session ≡ rs_pw) where
  abbrev secret : Command
  secret = commands.PolicySecret entity own auth nonce cp_hash policy_ref expiration

  abbrev secret_timeout : Option ℕ
  secret_timeout = timeout_of (policy_start tables secret) nonce expiration

  abbrev secret_ticket : Ticket
  secret_ticket = ticket_of tables.world st_auth_secret (name_at tables.world entity) cp_hash policy_ref secret_timeout

  secret-read : (it : Timed st_auth_secret secret_ticket secret_timeout)
      → reply_reading (number_of_code codes.PolicySecret) (succeeding tables number secret).reply ≡ Some (replies.PolicySecret it.timeout secret_ticket, Some answer_area)
  unfolding ValuesFit Fits spell spell_values
  secret-read it =
      reply_read _ _ (replies.PolicySecret it.timeout secret_ticket) (Some answer_area) (record {
        whole = ap (spell_reply (replies.PolicySecret secret_timeout secret_ticket)) (password-auth tables number secret (replies.PolicySecret secret_timeout secret_ticket) auth area)
            ∙ ap (λ (bytes : List ℕ). message_bytes (tag true) 0 (reply_body ((sized bytes ++ ticket_bytes secret_ticket) ++ []) (Some answer_area))) it.bytes;
        fits = ((it.fits, tt), area-fits);
        answers = refl;
      })

module _ (tables : TableState) (number key own : ℕ) (nonce : List ℕ) (cp_hash : Option Digest32) (policy_ref : List ℕ) (expiration : ℤ) (signature : Digest32) where
  abbrev signed : Command
  signed = commands.PolicySigned key own nonce cp_hash policy_ref expiration signature

  abbrev signed_timeout : Option ℕ
  signed_timeout = timeout_of (policy_start tables signed) nonce expiration

  abbrev signed_ticket : Ticket
  signed_ticket = ticket_of tables.world st_auth_signed (name_at tables.world key) cp_hash policy_ref signed_timeout

  signed-read : (it : Timed st_auth_signed signed_ticket signed_timeout)
      → reply_reading (number_of_code codes.PolicySigned) (succeeding tables number signed).reply ≡ Some (replies.PolicySigned it.timeout signed_ticket, None)
  unfolding ValuesFit Fits spell spell_values
  signed-read it =
      reply_read _ _ (replies.PolicySigned it.timeout signed_ticket) None (record {
        whole = ap (λ (bytes : List ℕ). message_bytes (tag false) 0 (reply_body ((sized bytes ++ ticket_bytes signed_ticket) ++ []) None)) it.bytes;
        fits = ((it.fits, tt), refl);
        answers = refl;
      })

ticket-read : (tables : TableState) (number own timeout : ℕ) (cp_hash : Option Digest32) (policy_ref : List ℕ) (key : Name) (ticket : Ticket)
    → reply_reading (number_of_code codes.PolicyTicket) (succeeding tables number (commands.PolicyTicket own timeout cp_hash policy_ref key ticket)).reply ≡ Some (replies.PolicyTicket, None)
unfolding ValuesFit Fits spell spell_values
ticket-read tables number own timeout cp_hash policy_ref key ticket =
    reply_read _ _ replies.PolicyTicket None (record { whole = refl; fits = (tt, refl); answers = refl })

-- ---- nothing is earned

none-by-ticket : (act : Move) → earned_from act replies.PolicyTicket ≡ []
none-by-ticket (Assert (assertions.Secret entity policy_ref cp_hash expiration)) = refl
none-by-ticket (Assert (assertions.Signed key policy_ref cp_hash expiration)) = refl
none-by-ticket act = refl

none-by-reply : (act : Move) → ((reply : Reply) → earned_from act reply ≡ []) → (reply : Reply) (auth : Option ReplyAuth) → earned_in (Some act) (answer_of_reply reply auth) ≡ []
none-by-reply act none (replies.Refused rc) auth = refl
none-by-reply act none reply auth = none reply

none-in : (act : Move) → ((reply : Reply) → earned_from act reply ≡ []) → (read : Option (Reply × Option ReplyAuth)) → earned_in (Some act) (answer_of read) ≡ []
none-in act none None = refl
none-in act none (Some found) = none-by-reply act none found.0 found.1

-- ---- the machine's seed, and its count of resets

resets-same : (setup : Setup) (past : List Event) (event : Event) (session : ℕ) (fact : Moment → Fact) → deed_of event ≡ Shows session fact → reset_count_of setup (event ∷ past) ≡ reset_count_of setup past
unfolding reset_count_of
resets-same setup past event session fact deed = ap (λ (d : Deed). reset_count_after d (reset_count_of setup past)) deed

resets-now : (setup : Setup) (past : List Event) → (view_of setup past).world.reset_count ≡ reset_count_of setup past
unfolding view_of world_at
resets-now setup past = refl

seed-now : (setup : Setup) (past : List Event) → (view_of setup past).world.seed ≡ setup.seed
unfolding view_of world_at
seed-now setup past = refl

no-verification : (ticket : Option Ticket) (assertion : Assertion) → is_verification ticket (Assert assertion) ≡ false
no-verification None assertion = refl
no-verification (Some ticket) assertion = refl

-- what a run earns by its next turn is the machine's
abbrev pub EarnsAt : Run → List Event → Standing → Drive → Type 0
EarnsAt run past at (Sends command) = AllByRecursion (IsEarned run.setup) (earned_at run.plan at (reset_count_of run.setup (event_in run past command ∷ past)) (answer_in run past command).reply)
EarnsAt run past at (Ends end) = ⊤

-- ---- a turn on the path

module _ (run : Run) (is : IsRun run) (past : List Event) where
  abbrev event_by_answer : Command → Answered → Event
  event_by_answer command a = event_of run.client run.locality (spelling command) a

  -- what an answer to this command of a move earns is the machine's
  abbrev EarnsFrom : Option Move → Command → Answered → Type 0
  EarnsFrom act command a =
      AllByRecursion (IsEarned run.setup) (map (counted (reset_count_of run.setup (event_by_answer command a ∷ past))) (earned_in act (answer_of (reply_reading (number_of_code (code_of_command command)) a.reply))))

  abbrev Earns : Option Move → Command → Type 0
  Earns act command = EarnsFrom act command (answer_in run past command)

  -- where it is read so
  by-read : (act : Option Move) (command : Command) (a : Answered) (read : Option (Reply × Option ReplyAuth)) → reply_reading (number_of_code (code_of_command command)) a.reply ≡ read
      → AllByRecursion (IsEarned run.setup) (map (counted (reset_count_of run.setup (event_by_answer command a ∷ past))) (earned_in act (answer_of read)))
      → EarnsFrom act command a
  by-read act command a read same earns =
      subst (λ (r : Option (Reply × Option ReplyAuth)). AllByRecursion (IsEarned run.setup) (map (counted (reset_count_of run.setup (event_by_answer command a ∷ past))) (earned_in act (answer_of r)))) (sym same) earns

  -- a refusal earns nothing
  by-command : (act : Move) (command : Command) → FitsCommand command
      → (first_stop (view_of run.setup past) run.locality command ≡ None → EarnsFrom (Some act) command (succeeding (view_of run.setup past) (next_number past) command))
      → Earns (Some act) command
  by-command act command fits goes =
      on-answer (EarnsFrom (Some act) command) (view_of run.setup past) (next_number past) run.locality (spelling command) command (read-back command fits)
      (λ stop stops. by-read (Some act) command _ _
      (refusal-read (number_of_code (code_of_command command)) stop.code
      (stop-code (first_stop (view_of run.setup past) run.locality command) stop (first-coded (view_of run.setup past) run.locality command (rules-coded (view_of run.setup past) command)) stops)) tt)
      goes

  by-other : (act : Move) (command : Command) → ((reply : Reply) → earned_from act reply ≡ []) → Earns (Some act) command
  by-other act command none =
      subst (λ (tickets : List HeldTicket). AllByRecursion (IsEarned run.setup) (map (counted (reset_count_of run.setup (event_in run past command ∷ past))) tickets))
      (sym (none-in act none (reply_reading (number_of_code (code_of_command command)) (answer_in run past command).reply))) tt

  by-ticket : (act : Move) (session : Session) (held : HeldTicket) → FitsCommand (ticket_command session held) → Earns (Some act) (ticket_command session held)
  by-ticket act session held fits =
      by-command act (ticket_command session held) fits
      (λ first. by-read (Some act) (ticket_command session held) (succeeding (view_of run.setup past) (next_number past) (ticket_command session held)) (Some (replies.PolicyTicket, None))
      (ticket-read (view_of run.setup past) (next_number past) session.handle held.deadline held.cp_hash held.policy_ref held.key (record { tag = tag_of_ticket held.signed; hierarchy = rh_owner; digest = held.digest.bytes }))
      (subst (λ (tickets : List HeldTicket). AllByRecursion (IsEarned run.setup) (map (counted (reset_count_of run.setup (event_by_answer (ticket_command session held) (succeeding (view_of run.setup past) (next_number past) (ticket_command session held)) ∷ past))) tickets))
      (sym (none-by-ticket act)) tt))

  -- the digest over what the machine has is that over what the run knows
  same-digest : (tag deadline count : ℕ) (name known : Name) (cp_hash : Option Digest32) (policy_ref : List ℕ) → count ≡ reset_count_of run.setup past → name ≡ known
      → auth_ticket (proof_of (view_of run.setup past).world.seed) tag deadline (view_of run.setup past).world.reset_count (optional_bytes cp_hash) policy_ref name
      ≡ auth_ticket (proof_of run.setup.seed) tag deadline count (optional_bytes cp_hash) policy_ref known
  same-digest tag deadline count name known cp_hash policy_ref counts names =
      let resets = resets-now run.setup past ∙ sym counts in
      λ i. auth_ticket (proof_of (seed-now run.setup past i)) tag deadline (resets i) (optional_bytes cp_hash) policy_ref (names i)

  -- ---- PolicySecret

  module _ (session : Session) (entity : Name) (policy_ref : List ℕ) (cp_hash : Option Digest32) (expiration : ℤ) (handle : ℕ) (listed : entity_of_name (directory_of run.setup) entity ≡ Some handle) where
    abbrev secret_sent : Command
    secret_sent = commands.PolicySecret handle session.handle (password_area run.plan.grants handle) session.nonce.bytes cp_hash policy_ref expiration

    abbrev secret_told : Option ℕ
    secret_told = timeout_of (policy_start (view_of run.setup past) secret_sent) session.nonce.bytes expiration

    abbrev secret_given : Ticket
    secret_given = ticket_of (view_of run.setup past).world st_auth_secret (name_at (view_of run.setup past).world handle) cp_hash policy_ref secret_told

    abbrev secret_done : Answered
    secret_done = succeeding (view_of run.setup past) (next_number past) secret_sent

    abbrev secret_resets : ℕ
    secret_resets = reset_count_of run.setup (event_by_answer secret_sent secret_done ∷ past)

    secret-resets : FitsCommand secret_sent → secret_resets ≡ reset_count_of run.setup past
    secret-resets fits =
        resets-same run.setup past (event_by_answer secret_sent secret_done) session.handle _
        (done-deed (view_of run.setup past) (next_number past) run.client run.locality (spelling secret_sent) secret_sent (read-back secret_sent fits))

    secret-name : option_map_or is_index (entity_of_name (directory_of run.setup) entity) false ≡ false → name_at (view_of run.setup past).world handle ≡ entity
    secret-name apart =
        lasting-name run.setup (view_of run.setup past).world entity handle (is-of run.setup past) (entity-found run.setup is.setup entity handle listed)
        (subst (λ (o : Option ℕ). option_map_or is_index o false ≡ false) listed apart)

    secret-earned : FitsCommand secret_sent → (deadline : ℕ) → IsAnswered (view_of run.setup past).world st_auth_secret (name_at (view_of run.setup past).world handle) cp_hash policy_ref secret_told deadline
        → IsEarned run.setup (counted secret_resets (earned_ticket false entity policy_ref cp_hash deadline secret_given))
    secret-earned fits deadline told = record {
      bounds = told.small;
      digest = λ apart. told.digest
          ∙ same-digest st_auth_secret deadline secret_resets (name_at (view_of run.setup past).world handle) entity cp_hash policy_ref (secret-resets fits) (secret-name apart);
    }

    secret-by : FitsCommand secret_sent → (timeout : Option ℕ) → timeout_bytes secret_told ≡ timeout_bytes timeout → Fits (TimedTicket st_auth_secret) (timeout, secret_given)
        → AllByRecursion (IsEarned run.setup) (map (counted secret_resets) (earned_in (Some (Assert (assertions.Secret entity policy_ref cp_hash expiration))) (answer_of (Some (replies.PolicySecret timeout secret_given, Some answer_area)))))
    secret-by fits None same right = tt
    secret-by fits (Some deadline) same right =
        (secret-earned fits deadline (answered-by (view_of run.setup past).world st_auth_secret (name_at (view_of run.setup past).world handle) cp_hash policy_ref secret_told deadline same right), tt)

    by-secret : FitsCommand secret_sent → Earns (Some (Assert (assertions.Secret entity policy_ref cp_hash expiration))) secret_sent
    by-secret fits =
        let it = timed (view_of run.setup past).world st_auth_secret (name_at (view_of run.setup past).world handle) cp_hash policy_ref secret_told (omega arith) in
        by-command (Assert (assertions.Secret entity policy_ref cp_hash expiration)) secret_sent fits
        (λ first. by-read (Some (Assert (assertions.Secret entity policy_ref cp_hash expiration))) secret_sent secret_done (Some (replies.PolicySecret it.timeout secret_given, Some answer_area))
        (secret-read (view_of run.setup past) (next_number past) handle session.handle (password_area run.plan.grants handle) session.nonce.bytes cp_hash policy_ref expiration refl it)
        (secret-by fits it.timeout it.bytes it.fits))

  -- ---- PolicySigned

  module _ (session : Session) (key : Name) (policy_ref : List ℕ) (cp_hash : Option Digest32) (expiration : ℤ) (line : DirEntry) (listed : object_of_name (directory_of run.setup) key ≡ Some line) (signature : Digest32) where
    abbrev signed_sent : Command
    signed_sent = commands.PolicySigned line.handle session.handle session.nonce.bytes cp_hash policy_ref expiration signature

    abbrev signed_told : Option ℕ
    signed_told = timeout_of (policy_start (view_of run.setup past) signed_sent) session.nonce.bytes expiration

    abbrev signed_given : Ticket
    signed_given = ticket_of (view_of run.setup past).world st_auth_signed (name_at (view_of run.setup past).world line.handle) cp_hash policy_ref signed_told

    abbrev signed_done : Answered
    signed_done = succeeding (view_of run.setup past) (next_number past) signed_sent

    abbrev signed_resets : ℕ
    signed_resets = reset_count_of run.setup (event_by_answer signed_sent signed_done ∷ past)

    signed-resets : FitsCommand signed_sent → signed_resets ≡ reset_count_of run.setup past
    signed-resets fits =
        resets-same run.setup past (event_by_answer signed_sent signed_done) session.handle _
        (done-deed (view_of run.setup past) (next_number past) run.client run.locality (spelling signed_sent) signed_sent (read-back signed_sent fits))

    signed-name : name_at (view_of run.setup past).world line.handle ≡ key
    signed-name = object-name-at run.setup (view_of run.setup past).world key line.handle (is-of run.setup past) (object-found run.setup is.setup key line listed)

    signed-earned : FitsCommand signed_sent → (deadline : ℕ) → IsAnswered (view_of run.setup past).world st_auth_signed (name_at (view_of run.setup past).world line.handle) cp_hash policy_ref signed_told deadline
        → IsEarned run.setup (counted signed_resets (earned_ticket true key policy_ref cp_hash deadline signed_given))
    signed-earned fits deadline told = record {
      bounds = told.small;
      digest = λ apart. told.digest
          ∙ same-digest st_auth_signed deadline signed_resets (name_at (view_of run.setup past).world line.handle) key cp_hash policy_ref (signed-resets fits) signed-name;
    }

    signed-by : FitsCommand signed_sent → (timeout : Option ℕ) → timeout_bytes signed_told ≡ timeout_bytes timeout → Fits (TimedTicket st_auth_signed) (timeout, signed_given)
        → AllByRecursion (IsEarned run.setup) (map (counted signed_resets) (earned_in (Some (Assert (assertions.Signed key policy_ref cp_hash expiration))) (answer_of (Some (replies.PolicySigned timeout signed_given, None)))))
    signed-by fits None same right = tt
    signed-by fits (Some deadline) same right =
        (signed-earned fits deadline (answered-by (view_of run.setup past).world st_auth_signed (name_at (view_of run.setup past).world line.handle) cp_hash policy_ref signed_told deadline same right), tt)

    by-signed : FitsCommand signed_sent → Earns (Some (Assert (assertions.Signed key policy_ref cp_hash expiration))) signed_sent
    by-signed fits =
        let it = timed (view_of run.setup past).world st_auth_signed (name_at (view_of run.setup past).world line.handle) cp_hash policy_ref signed_told (omega arith) in
        by-command (Assert (assertions.Signed key policy_ref cp_hash expiration)) signed_sent fits
        (λ first. by-read (Some (Assert (assertions.Signed key policy_ref cp_hash expiration))) signed_sent signed_done (Some (replies.PolicySigned it.timeout signed_given, None))
        (signed-read (view_of run.setup past) (next_number past) line.handle session.handle session.nonce.bytes cp_hash policy_ref expiration signature it)
        (signed-by fits it.timeout it.bytes it.fits))

  -- ---- any move

  secret-at : (session : Session) (entity : Name) (policy_ref : List ℕ) (cp_hash : Option Digest32) (expiration : ℤ) (o : Option ℕ) → entity_of_name (directory_of run.setup) entity ≡ o → is_some o ≡ true
      → FitsCommand (commands.PolicySecret (or_null o) session.handle (password_area run.plan.grants (or_null o)) session.nonce.bytes cp_hash policy_ref expiration)
      → Earns (Some (Assert (assertions.Secret entity policy_ref cp_hash expiration))) (commands.PolicySecret (or_null o) session.handle (password_area run.plan.grants (or_null o)) session.nonce.bytes cp_hash policy_ref expiration)
  secret-at session entity policy_ref cp_hash expiration None e known fits = absurd (false≢true known)
  secret-at session entity policy_ref cp_hash expiration (Some handle) e known fits = by-secret session entity policy_ref cp_hash expiration handle e fits

  abbrev signed_at : Session → ℕ → List ℕ → Option Digest32 → ℤ → Command
  signed_at session handle policy_ref cp_hash expiration =
      commands.PolicySigned handle session.handle session.nonce.bytes cp_hash policy_ref expiration (signature_of (key_of run.plan.grants handle) (signed_hash session.nonce.bytes expiration (optional_bytes cp_hash) policy_ref))

  signed-at : (session : Session) (key : Name) (policy_ref : List ℕ) (cp_hash : Option Digest32) (expiration : ℤ) (o : Option DirEntry) → object_of_name (directory_of run.setup) key ≡ o → is_granted_key run.plan.grants o ≡ true
      → FitsCommand (signed_at session (or_null (option_map (λ (entry : DirEntry). entry.handle) o)) policy_ref cp_hash expiration)
      → Earns (Some (Assert (assertions.Signed key policy_ref cp_hash expiration))) (signed_at session (or_null (option_map (λ (entry : DirEntry). entry.handle) o)) policy_ref cp_hash expiration)
  signed-at session key policy_ref cp_hash expiration None e known fits = absurd (false≢true known)
  signed-at session key policy_ref cp_hash expiration (Some line) e known fits = by-signed session key policy_ref cp_hash expiration line e _ fits

  own-fits : (session : Session) (ticket : Option Ticket) (assertion : Assertion) → IsSlotHandle session.handle → TicketIsFit ticket → MoveHasBounds (Assert assertion) → is_known_move (directory_of run.setup) run.plan.grants (Assert assertion) ≡ true
      → FitsCommand (command_of_move (directory_of run.setup) run.plan.grants session ticket (Assert assertion))
  own-fits session ticket assertion slot fit bounds known =
      (own-move run.setup is.setup (view_of run.setup past).world (is-of run.setup past) run.plan.grants is.grants session.handle session.nonce slot ticket (Assert assertion) fit bounds known (no-verification ticket assertion)).fits

  own-earns : (session : Session) (ticket : Option Ticket) (act : Move) → IsSlotHandle session.handle → TicketIsFit ticket → MoveHasBounds act → is_known_move (directory_of run.setup) run.plan.grants act ≡ true
      → Earns (Some act) (command_of_move (directory_of run.setup) run.plan.grants session ticket act)
  own-earns session ticket (Assert (assertions.Secret entity policy_ref cp_hash expiration)) slot fit bounds known =
      secret-at session entity policy_ref cp_hash expiration (entity_of_name (directory_of run.setup) entity) refl known (own-fits session ticket (assertions.Secret entity policy_ref cp_hash expiration) slot fit bounds known)
  own-earns session ticket (Assert (assertions.Signed key policy_ref cp_hash expiration)) slot fit bounds known =
      signed-at session key policy_ref cp_hash expiration (object_of_name (directory_of run.setup) key) refl known (own-fits session ticket (assertions.Signed key policy_ref cp_hash expiration) slot fit bounds known)
  own-earns session ticket act slot fit bounds known = by-other act (command_of_move (directory_of run.setup) run.plan.grants session ticket act) (λ reply. refl)

  path-earns : (session : Session) (sent done : ℕ) (ticket : Option Ticket) (o : Option Move) → IsSlotHandle session.handle → TicketIsFit ticket → slice_get run.plan.path.moves done ≡ o → Earns o (next_command run.plan session sent ticket o)
  path-earns session sent done ticket None slot fit at = tt
  path-earns session sent done ticket (Some act) slot fit at = by (ticket_for run.plan.tickets act) refl
    where
      bounds : MoveHasBounds act
      bounds = all-at MoveHasBounds run.plan.path.moves done act is.moves at

      by : (o : Option HeldTicket) → ticket_for run.plan.tickets act ≡ o → Earns (Some act) (next_command run.plan session sent ticket (Some act))
      by None none =
          subst (Earns (Some act)) (sym (plain-command run.plan session ticket act none))
          (subst (λ (d : List DirEntry). is_known_move d run.plan.grants act ≡ true → Earns (Some act) (command_of_move d run.plan.grants session ticket act)) (sym is.directory)
          (own-earns session ticket act slot fit bounds) (known-at run is past session.handle session.nonce sent done act at))
      by (Some held) found =
          let stands = found-stands run.plan.tickets act held found in
          let made = own-ticket (view_of run.setup past).world session.handle session.nonce slot held (found-each TicketHasBounds run.plan.tickets act held is.tickets found) act stands bounds in
          subst (Earns (Some act)) (sym (held-command run.plan session ticket act held found)) (by-ticket act session held made.fits)

  pub turn-earns : (at : Standing) → Knows at → EarnsAt run past at (sends run.plan at)
  turn-earns Starting knows = tt
  turn-earns (Moving session sent ticket done) knows = path-earns session sent done ticket (slice_get run.plan.path.moves done) knows.0 knows.1 refl
  turn-earns (Closing session end) knows = tt
  turn-earns (Over end) knows = tt

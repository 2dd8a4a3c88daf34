-- A run that stands on its path: the facts of its session have the digest of the moves that are done. Each act
-- keeps it.
use Rattle.std.proofs.Common.{◌≡◌, ℕ, ◌+◌, ◌<◌, ◌≤◌, true, false, List, [], ◌∷◌, ◌++◌, length, map, not, take, refl, ap, sym, subst, ◌∙◌, add-one, arith}
use Rattle.std.specs.Prelude.{Option, Some, None, is_some, option_map, slice_get, if◌then◌else◌, ⊤}
use Rattle.std.specs.List.{list_all, fold}
use Rattle.std.proofs.lemmas.List.Elements.{All-from_recursion}
use Rattle.std.specs.Option.{option_map_or}
use Rattle.std.proofs.Math.Seq.{take-suc}
use Rattle.std.proofs.lemmas.List.{map-append}
use Rattle.std.proofs.lemmas.Bool.{false≢true}
use Rattle.std.proofs.lemmas.Option.{get_or_from_slice_get, none-some, same_Some, slice_get_within}
use Rattle.tpol_base.specs.declared.digest.Digest32.{Digest32}
use Rattle.tpol_base.specs.declared.name.Name.{Name}
use Rattle.tpol_base.specs.CommandCode.{number_of_code}
use Rattle.tpol_base.specs.declared.command_code.CommandCode.TheVariants as codes
use Rattle.tpol_digest.specs.Digest.{after_update, digest_after, digest_from, digest_of_moves, zero_digest}
use Rattle.tpol_digest.specs.Laws.{MoveHasBounds}
use Rattle.tpol_tree.specs.Facts.{moves_of as moves_of_facts}
use Rattle.tpol_digest.specs.Update.{update_of}
use Rattle.tpol_driver.specs.declared.end.End.{End}
use Rattle.tpol_driver.specs.declared.end.End.TheVariants as ends
use Rattle.tpol_driver.specs.Answers.{answer_of, answer_of_reply}
use Rattle.tpol_driver.specs.Commands.{command_of_move, key_handle, or_null, start_command}
use Rattle.tpol_driver.specs.Driving.{Closing, Moving, Over, Standing, Starting, after_goal, goal_heard, goes_on, heard_on_path, is_verification, move_heard, next_command, sends, start_heard, verified}
use Rattle.tpol_driver.specs.Plans.{is_known_move}
use Rattle.tpol_driver.specs.declared.tickets.HeldTicket.{HeldTicket}
use Rattle.tpol_driver.specs.Tickets.{ticket_command, ticket_for}
use Rattle.tpol_goal.specs.Entities.{object_of_name}
use Rattle.tpol_hash.specs.Sha256.{sha256_digest}
use Rattle.tpol_name.specs.declared.entries.DirEntry.{DirEntry}
use Rattle.tpol_name.specs.declared.entries.ObjectEntry.{ObjectEntry}
use Rattle.tpol_name.specs.declared.setup.Setup.{Setup}
use Rattle.tpol_name.specs.Directories.{directory_of}
use Rattle.tpol_tree.specs.declared.facts.Fact.{Fact}
use Rattle.tpol_tree.specs.declared.path.Move.{Move}
use Rattle.tpol_tree.specs.declared.path.Move.TheVariants.{Assert, Or, Approve, ApproveNv}
use Rattle.tpol_wire.specs.declared.auth_area.ReplyAuth.{ReplyAuth}
use Rattle.tpol_wire.specs.declared.command.Command.{Command}
use Rattle.tpol_wire.specs.declared.command.Command.TheVariants as commands
use Rattle.tpol_wire.specs.declared.reply.Reply.{Reply}
use Rattle.tpol_wire.specs.declared.reply.Reply.TheVariants as replies
use Rattle.tpol_fields.specs.declared.ticket.Ticket.{Ticket}
use Rattle.tpol_wire.specs.Commands.{FitsCommand, ValuesFit, code_of_command, spelling}
use Rattle.tpol_fields.specs.Kinds.{Fits, TicketFits}
use Rattle.tpol_wire.specs.Replies.{FitsReply, spell_reply}
use Rattle.tpol_wire.specs.ReplyReading.{reply_reading}
use Rattle.tpol_wire.proofs.ReplyLaws.{reply_read}
use Rattle.tpm_session.specs.Slots.{IsSlotHandle, handle_of_slot}
use Rattle.tpol_wire.specs.Handles.{area_of}
use Rattle.tpm_world.specs.Objects.{object_of}
use Rattle.tpm_world.specs.Hashes.{proof_of}
use Rattle.tpm_world.specs.Missing.{missing_object}
use Rattle.tpm_world.specs.VerifySignature as verification
use Rattle.tpm_auth.specs.Tickets.{verified_ticket}
use Rattle.tpol_name.specs.Areas.{object_name}
use Rattle.tpm_world.specs.World.{WorldState}
use Rattle.tpm_engine.specs.declared.event.Event.{Event}
use Rattle.tpm_engine.specs.Answers.{first_stop, stopped, succeeding}
use Rattle.tpm_engine.specs.Calls.{Call, event_by}
use Rattle.tpm_engine.specs.Deeds.{Shows, plain_deed}
use Rattle.tpm_engine.specs.Events.{event_of}
use Rattle.tpm_engine.specs.Facts.{Moment, Shown}
use Rattle.tpm_engine.specs.Tables.{TableState}
use Rattle.tpm_engine.specs.Views.{facts_of, indices_of, is_held, moment_of, next_number, view_of, world_at}
use Rattle.tpol_laws.specs.Acts.{Act, Course, Other, Run, Turn, after_act, after_acts, answer_in, begun, event_in, turned}
use Rattle.tpol_laws.specs.Others.{AreOthersApart, AreSecretsOnWritten, AsksWritten, LeavesAlone, SendsOnWritten, TurnsOnWritten, place_of}
use Rattle.tpol_laws.specs.Runs.{IsRun}
use Rattle.tpol_laws.specs.HeldTickets.{TicketHasBounds}
use Rattle.tpol_laws.proofs.After.{HasShown, Stays, has-shown, has-started, stays, touches, touches_by_use}
use Rattle.tpol_laws.proofs.Answered.{done-deed, done-use, on-answer, own-passed, password-use, read-back, refusal-read, stop-code}
use Rattle.tpol_laws.proofs.Calm.{others-stay}
use Rattle.tpol_laws.proofs.Codes.{HasCode, IsCode, first-coded, policy-own-coded, start-coded, verify-coded}
use Rattle.tpol_laws.proofs.Finds.{all-at, both as and-both, tests}
use Rattle.tpol_laws.proofs.Fit.{fits-start, fits-verify, object-handle}
use Rattle.tpol_laws.proofs.Lasting.{areas-same}
use Rattle.tpol_laws.proofs.Named.{object-found}
use Rattle.tpol_laws.proofs.Own.{IsOf, IsOwn, TicketIsFit, own-is-policy, own-move, rule-passed, ruled}
use Rattle.tpol_laws.proofs.Starts.{started}
use Rattle.tpol_laws.proofs.HeldTickets.{found-each, found-stands, held-command, own-ticket, plain-command, stands-other}

-- ---- the machine's world

pub is-of : (setup : Setup) (past : List Event) → IsOf setup (view_of setup past).world
unfolding view_of world_at
is-of setup past = record { objects = refl; areas = areas-same setup past }

-- ---- where a run stands

pub record IsOnPath (run : Run) (past : List Event) (own : ℕ) (ticket : Option Ticket) (done : ℕ) : Type 0 where
  pub slot : IsSlotHandle own
  pub fits : TicketIsFit ticket
  pub held : is_held past own ≡ true
  pub hashes : map update_of (moves_of_facts (facts_of run.setup past own)) ≡ map update_of (take done run.plan.path.moves)

abbrev pub IsOn : Run → List Event → Standing → Type 0
IsOn run past Starting = ⊤
IsOn run past (Moving session sent ticket done) = IsOnPath run past session.handle ticket done
IsOn run past (Closing session end) = ⊤
IsOn run past (Over end) = ⊤

-- an event that leaves the session keeps it
pub stays-on : (run : Run) (past : List Event) (event : Event) (own : ℕ) (before after : Option Ticket) (done : ℕ) → TicketIsFit after → IsOnPath run past own before done → Stays run.setup past event own
    → IsOnPath run (event ∷ past) own after done
stays-on run past event own before after done fits on stay = record {
  slot = on.slot;
  fits = fits;
  held = stay.held ∙ on.held;
  hashes = ap (λ facts. map update_of (moves_of_facts facts)) stay.facts ∙ on.hashes;
}

-- ---- one more move

facts-more : (facts : List Fact) (fact : Fact) → map update_of (moves_of_facts (facts ++ fact ∷ [])) ≡ map update_of (moves_of_facts facts) ++ update_of fact.act ∷ []
facts-more facts fact = ap (map update_of) (map-append (λ (f : Fact). f.act) facts (fact ∷ [])) ∙ map-append update_of (moves_of_facts facts) (fact.act ∷ [])

take-more : (moves : List Move) (done : ℕ) (act : Move) → slice_get moves done ≡ Some act → take (done + 1) moves ≡ take done moves ++ act ∷ []
take-more moves done act is =
    ap (λ n. take n moves) (add-one done)
    ∙ take-suc moves done act (slice_get_within moves done act is)
    ∙ ap (λ a. take done moves ++ a ∷ []) (get_or_from_slice_get moves done act act is)

moves-more : (moves : List Move) (done : ℕ) (act : Move) → slice_get moves done ≡ Some act → map update_of (take (done + 1) moves) ≡ map update_of (take done moves) ++ update_of act ∷ []
moves-more moves done act is = ap (map update_of) (take-more moves done act is) ∙ map-append update_of (take done moves) (act ∷ [])

shown-on : (run : Run) (past : List Event) (event : Event) (own : ℕ) (ticket : Option Ticket) (done : ℕ) (act : Move) (fact : Moment → Fact) → slice_get run.plan.path.moves done ≡ Some act
    → IsOnPath run past own ticket done → HasShown run.setup past event own fact → update_of (fact (moment_of run.setup past own)).act ≡ update_of act
    → IsOnPath run (event ∷ past) own None (done + 1)
shown-on run past event own ticket done act fact at on shown same =
    let facts = facts_of run.setup past own in
    let new = fact (moment_of run.setup past own) in
    record {
      slot = on.slot;
      fits = tt;
      held = shown.held ∙ on.held;
      hashes = ap (λ fs. map update_of (moves_of_facts fs)) shown.facts
          ∙ facts-more facts new
          ∙ ap (λ u. map update_of (moves_of_facts facts) ++ u ∷ []) same
          ∙ ap (λ us. us ++ update_of act ∷ []) on.hashes
          ∙ sym (moves-more run.plan.path.moves done act at);
    }

-- ---- what is heard

denied-on : (run : Run) (past : List Event) (own : ℕ) (nonce : Digest32) (sent done at : ℕ) (ticket : Option Ticket) (act : Move) (number code : ℕ) → IsCode code
    → IsOn run past (goes_on (record { handle = own; nonce = nonce }) sent done (move_heard ticket act at (answer_of (reply_reading number (spell_reply (replies.Refused (record { code = code })) None)))))
denied-on run past own nonce sent done at ticket act number code is =
    subst (λ (read : Option (Reply × Option ReplyAuth)). IsOn run past (goes_on (record { handle = own; nonce = nonce }) sent done (move_heard ticket act at (answer_of read)))) (sym (refusal-read number code is)) tt

-- a reply that is no refusal accepts a move
abbrev pub some-ticket : Ticket
some-ticket = record { tag = 0; hierarchy = 0; digest = [] }

pub accepted-reply : (run : Run) (past : List Event) (own : ℕ) (nonce : Digest32) (sent done at : ℕ) (ticket : Option Ticket) (act : Move) (reply : Reply) (auth : Option ReplyAuth) → is_verification ticket act ≡ false → IsOnPath run past own None (done + 1)
    → IsOn run past (goes_on (record { handle = own; nonce = nonce }) sent done (move_heard ticket act at (answer_of_reply reply auth)))
accepted-reply run past own nonce sent done at ticket act (replies.Refused rc) auth other on = tt
accepted-reply run past own nonce sent done at ticket act reply auth other on =
    subst (λ b. IsOn run past (goes_on (record { handle = own; nonce = nonce }) sent done (if b then verified at reply else move_heard (Some some-ticket) (Or []) at (answer_of_reply replies.FlushContext None)))) (sym other) on

accepted-on : (run : Run) (past : List Event) (own : ℕ) (nonce : Digest32) (sent done at : ℕ) (ticket : Option Ticket) (act : Move) (read : Option (Reply × Option ReplyAuth)) → is_verification ticket act ≡ false → IsOnPath run past own None (done + 1)
    → IsOn run past (goes_on (record { handle = own; nonce = nonce }) sent done (move_heard ticket act at (answer_of read)))
accepted-on run past own nonce sent done at ticket act None other on = tt
accepted-on run past own nonce sent done at ticket act (Some found) other on = accepted-reply run past own nonce sent done at ticket act found.0 found.1 other on

goal-on : (run : Run) (past : List Event) (session : ℕ) (end : End) → IsOn run past (after_goal session end)
goal-on run past session (ends.Served bytes) = tt
goal-on run past session (ends.Denied stage rc) = tt
goal-on run past session (ends.BadReply stage) = tt

-- ---- a turn on the path

module _ (run : Run) (is : IsRun run) (past : List Event) (own : ℕ) (nonce : Digest32) (sent done : ℕ) where
  -- a policy command that nothing stops
  own-done : (ticket : Option Ticket) (act : Move) (command : Command) → slice_get run.plan.path.moves done ≡ Some act → IsOnPath run past own ticket done
      → IsOwn (view_of run.setup past).world own act command → AsksWritten (view_of run.setup past).world.indices command → first_stop (view_of run.setup past) run.locality command ≡ None
      → IsOnPath run (event_of run.client run.locality (spelling command) (succeeding (view_of run.setup past) (next_number past) command) ∷ past) own None (done + 1)
  unfolding view_of
  own-done ticket act command at on made asks first =
      let reads = read-back command made.fits in
      let rule = own-passed (view_of run.setup past) run.locality command first in
      let passed = rule-passed (view_of run.setup past) command made.policy rule in
      let shows = made.shows passed.state passed.holds asks in
      let deed = done-deed (view_of run.setup past) (next_number past) run.client run.locality (spelling command) command reads
      ∙ ap (λ (o : Option Shown). option_map_or (λ (shown : Shown). Shows shown.0 shown.1) o (plain_deed command (succeeding (view_of run.setup past) (next_number past) command).reply)) shows.is in
      let uses = done-use (view_of run.setup past) (next_number past) run.client run.locality (spelling command) command reads ∙ password-use (area_of command) made.area in
      shown-on run past _ own ticket done act shows.fact at on (has-shown run.setup past _ own shows.fact deed uses)
      (shows.same (moment_of run.setup past own) refl)

  own-turn : (ticket : Option Ticket) (act : Move) (command : Command) (number : ℕ) → slice_get run.plan.path.moves done ≡ Some act → IsOnPath run past own ticket done → is_verification ticket act ≡ false
      → IsOwn (view_of run.setup past).world own act command → AsksWritten (view_of run.setup past).world.indices command
      → IsOn run (event_in run past command ∷ past) (goes_on (record { handle = own; nonce = nonce }) sent done (move_heard ticket act (done + 1) (answer_of (reply_reading number (answer_in run past command).reply))))
  own-turn ticket act command number at on other made asks =
      on-answer (λ a. IsOn run (event_of run.client run.locality (spelling command) a ∷ past) (goes_on (record { handle = own; nonce = nonce }) sent done (move_heard ticket act (done + 1) (answer_of (reply_reading number a.reply)))))
      (view_of run.setup past) (next_number past) run.locality (spelling command) command (read-back command made.fits)
      (λ stop stops. denied-on run _ own nonce sent done (done + 1) ticket act number stop.code
      (stop-code (first_stop (view_of run.setup past) run.locality command) stop
      (first-coded (view_of run.setup past) run.locality command
      (subst HasCode (sym (own-is-policy (view_of run.setup past) command made.policy)) (policy-own-coded (view_of run.setup past) command))) stops))
      (λ first. accepted-on run _ own nonce sent done (done + 1) ticket act _ other (own-done ticket act command at on made asks first))

-- ---- VerifySignature, which makes the ticket

short : (digest : Digest32) → length digest.bytes ≤ 64
short digest = omega (arith, digest.whole)

ticket-fits : (world : WorldState) (digest : Digest32) (object : ObjectEntry) → TicketFits (verification.ticket_of world digest object)
ticket-fits world digest object = record { tag = omega arith; hierarchy = omega arith; digest = short (verified_ticket (proof_of world.seed) digest (object_name object.public)) }

ticket-reply : (ticket : Ticket) → TicketFits ticket → FitsReply (replies.VerifySignature ticket) None
unfolding ValuesFit Fits
ticket-reply ticket fits = ((fits, tt), refl)

-- what the machine answers to it is heard as a ticket that fits
pub record Verifies (world : WorldState) (key : ℕ) (digest : Digest32) (reply : List ℕ) : Type 0 where
  pub object : ObjectEntry
  pub held : object_of key world.objects ≡ Some object
  pub ticket : Ticket
  pub made : ticket ≡ verification.ticket_of world digest object
  pub fits : TicketFits ticket
  pub reads : reply_reading (number_of_code codes.VerifySignature) reply ≡ Some (replies.VerifySignature ticket, None)

pub verifies : (tables : TableState) (number key : ℕ) (digest signature : Digest32) → verification.rule tables.world key digest signature ≡ None
    → Verifies tables.world key digest (succeeding tables number (commands.VerifySignature key digest signature)).reply
verifies tables number key digest signature rule =
    let it = ruled _ (object_of key tables.world.objects) _ rule in
    let ticket = verification.ticket_of tables.world digest it.value in
    let fits = ticket-fits tables.world digest it.value in
    let same : verification.reply tables.world key digest ≡ replies.VerifySignature ticket =
    ap (λ (o : Option ObjectEntry). option_map_or (λ (object : ObjectEntry). replies.VerifySignature (verification.ticket_of tables.world digest object)) o (replies.Refused (record { code = missing_object }))) it.is in
    let read : reply_reading (number_of_code codes.VerifySignature) (spell_reply (replies.VerifySignature ticket) None) ≡ Some (replies.VerifySignature ticket, None) =
    reply_read (number_of_code codes.VerifySignature) _ (replies.VerifySignature ticket) None (record { whole = refl; fits = ticket-reply ticket fits; answers = refl }) in
    record {
      object = it.value;
      held = it.is;
      ticket = ticket;
      made = refl;
      fits = fits;
      reads = ap (λ (r : Reply). reply_reading (number_of_code codes.VerifySignature) (spell_reply r None)) same ∙ read;
    }

module _ (run : Run) (is : IsRun run) (past : List Event) (own : ℕ) (nonce : Digest32) (sent done : ℕ) where
  verify-done : (key : Name) (policy_ref : List ℕ) (approved signature : Digest32) (handle : ℕ) (digest : Digest32) → IsOnPath run past own None done
      → FitsCommand (commands.VerifySignature handle digest signature)
      → first_stop (view_of run.setup past) run.locality (commands.VerifySignature handle digest signature) ≡ None
      → IsOn run (event_of run.client run.locality (spelling (commands.VerifySignature handle digest signature)) (succeeding (view_of run.setup past) (next_number past) (commands.VerifySignature handle digest signature)) ∷ past)
      (goes_on (record { handle = own; nonce = nonce }) sent done (move_heard None (Approve key policy_ref approved signature) (done + 1)
      (answer_of (reply_reading (number_of_code codes.VerifySignature) (succeeding (view_of run.setup past) (next_number past) (commands.VerifySignature handle digest signature)).reply))))
  verify-done key policy_ref approved signature handle digest on fits first =
      let command : Command = commands.VerifySignature handle digest signature in
      let reads = read-back (commands.VerifySignature handle digest signature) fits in
      let rule = own-passed (view_of run.setup past) run.locality (commands.VerifySignature handle digest signature) first in
      let it = verifies (view_of run.setup past) (next_number past) handle digest signature rule in
      let event = event_of run.client run.locality (spelling command) (succeeding (view_of run.setup past) (next_number past) command) in
      let stay = stays run.setup past event own
      (ap (λ d. touches d own) (done-deed (view_of run.setup past) (next_number past) run.client run.locality (spelling command) command reads))
      (ap (λ u. touches_by_use u own) (done-use (view_of run.setup past) (next_number past) run.client run.locality (spelling command) command reads)) in
      subst (λ (read : Option (Reply × Option ReplyAuth)). IsOn run (event ∷ past) (goes_on (record { handle = own; nonce = nonce }) sent done (move_heard None (Approve key policy_ref approved signature) (done + 1) (answer_of read)))) (sym it.reads)
      (stays-on run past event own None (Some it.ticket) done it.fits on stay)

  verify-turn : (key : Name) (policy_ref : List ℕ) (approved signature : Digest32) (handle : ℕ) (digest : Digest32) → IsOnPath run past own None done
      → FitsCommand (commands.VerifySignature handle digest signature)
      → IsOn run (event_in run past (commands.VerifySignature handle digest signature) ∷ past)
      (goes_on (record { handle = own; nonce = nonce }) sent done (move_heard None (Approve key policy_ref approved signature) (done + 1)
      (answer_of (reply_reading (number_of_code codes.VerifySignature) (answer_in run past (commands.VerifySignature handle digest signature)).reply))))
  verify-turn key policy_ref approved signature handle digest on fits =
      let command : Command = commands.VerifySignature handle digest signature in
      on-answer (λ a. IsOn run (event_of run.client run.locality (spelling command) a ∷ past) (goes_on (record { handle = own; nonce = nonce }) sent done (move_heard None (Approve key policy_ref approved signature) (done + 1) (answer_of (reply_reading (number_of_code codes.VerifySignature) a.reply)))))
      (view_of run.setup past) (next_number past) run.locality (spelling command) command (read-back (commands.VerifySignature handle digest signature) fits)
      (λ stop stops. denied-on run _ own nonce sent done (done + 1) None (Approve key policy_ref approved signature) (number_of_code codes.VerifySignature) stop.code
      (stop-code (first_stop (view_of run.setup past) run.locality command) stop
      (first-coded (view_of run.setup past) run.locality command (verify-coded (view_of run.setup past).world handle digest signature)) stops))
      (λ first. verify-done key policy_ref approved signature handle digest on fits first)

  -- the key that a directory has
  pub verify-fits : (name : Name) (digest signature : Digest32) (o : Option DirEntry) → object_of_name (directory_of run.setup) name ≡ o → is_some o ≡ true
      → FitsCommand (commands.VerifySignature (or_null (option_map (λ (entry : DirEntry). entry.handle) o)) digest signature)
  verify-fits name digest signature None e known = absurd (false≢true known)
  verify-fits name digest signature (Some entry) e known = fits-verify entry.handle digest signature (object-handle run.setup name entry.handle (object-found run.setup is.setup name entry e))

-- ---- a turn of a move

pub asks-view : (setup : Setup) (past : List Event) (command : Command) → AsksWritten (indices_of setup past) command → AsksWritten (view_of setup past).world.indices command
unfolding view_of world_at
asks-view setup past command asks = asks

module _ (run : Run) (is : IsRun run) (past : List Event) (own : ℕ) (nonce : Digest32) (sent done : ℕ) where
  own-step : (ticket : Option Ticket) (act : Move) → slice_get run.plan.path.moves done ≡ Some act → IsOnPath run past own ticket done
      → MoveHasBounds act → is_known_move (directory_of run.setup) run.plan.grants act ≡ true → is_verification ticket act ≡ false
      → AsksWritten (indices_of run.setup past) (command_of_move (directory_of run.setup) run.plan.grants (record { handle = own; nonce = nonce }) ticket act)
      → IsOn run (event_in run past (command_of_move (directory_of run.setup) run.plan.grants (record { handle = own; nonce = nonce }) ticket act) ∷ past)
      (goes_on (record { handle = own; nonce = nonce }) sent done (move_heard ticket act (done + 1) (answer_of (reply_reading (number_of_code (code_of_command (command_of_move (directory_of run.setup) run.plan.grants (record { handle = own; nonce = nonce }) ticket act)))
      (answer_in run past (command_of_move (directory_of run.setup) run.plan.grants (record { handle = own; nonce = nonce }) ticket act)).reply))))
  own-step ticket act at on bounds known other asks =
      own-turn run is past own nonce sent done ticket act (command_of_move (directory_of run.setup) run.plan.grants (record { handle = own; nonce = nonce }) ticket act) _ at on other
      (own-move run.setup is.setup (view_of run.setup past).world (is-of run.setup past) run.plan.grants is.grants own nonce on.slot ticket act on.fits bounds known other) (asks-view run.setup past _ asks)

  move-step : (ticket : Option Ticket) (act : Move) → slice_get run.plan.path.moves done ≡ Some act → IsOnPath run past own ticket done
      → MoveHasBounds act → is_known_move (directory_of run.setup) run.plan.grants act ≡ true
      → AsksWritten (indices_of run.setup past) (command_of_move (directory_of run.setup) run.plan.grants (record { handle = own; nonce = nonce }) ticket act)
      → IsOn run (event_in run past (command_of_move (directory_of run.setup) run.plan.grants (record { handle = own; nonce = nonce }) ticket act) ∷ past)
      (goes_on (record { handle = own; nonce = nonce }) sent done (move_heard ticket act (done + 1) (answer_of (reply_reading (number_of_code (code_of_command (command_of_move (directory_of run.setup) run.plan.grants (record { handle = own; nonce = nonce }) ticket act)))
      (answer_in run past (command_of_move (directory_of run.setup) run.plan.grants (record { handle = own; nonce = nonce }) ticket act)).reply))))
  move-step None (Approve key policy_ref approved signature) at on bounds known asks =
      verify-turn run is past own nonce sent done key policy_ref approved signature (key_handle (directory_of run.setup) key) (sha256_digest (approved.bytes ++ policy_ref)) on
      (verify-fits run is past own nonce sent done key (sha256_digest (approved.bytes ++ policy_ref)) signature (object_of_name (directory_of run.setup) key) refl known)
  move-step None (Assert assertion) at on bounds known asks = own-step None (Assert assertion) at on bounds known refl asks
  move-step None (Or digests) at on bounds known asks = own-step None (Or digests) at on bounds known refl asks
  move-step None (ApproveNv index approved) at on bounds known asks = own-step None (ApproveNv index approved) at on bounds known refl asks
  move-step (Some ticket) act at on bounds known asks = own-step (Some ticket) act at on bounds known refl asks

  -- with the plan's directory, which is the setup's
  move-in : (directory : List DirEntry) → directory_of run.setup ≡ directory → (ticket : Option Ticket) (act : Move) → slice_get run.plan.path.moves done ≡ Some act → IsOnPath run past own ticket done
      → MoveHasBounds act → is_known_move directory run.plan.grants act ≡ true → AsksWritten (indices_of run.setup past) (command_of_move directory run.plan.grants (record { handle = own; nonce = nonce }) ticket act)
      → IsOn run (event_in run past (command_of_move directory run.plan.grants (record { handle = own; nonce = nonce }) ticket act) ∷ past)
      (goes_on (record { handle = own; nonce = nonce }) sent done (move_heard ticket act (done + 1) (answer_of (reply_reading (number_of_code (code_of_command (command_of_move directory run.plan.grants (record { handle = own; nonce = nonce }) ticket act)))
      (answer_in run past (command_of_move directory run.plan.grants (record { handle = own; nonce = nonce }) ticket act)).reply))))
  move-in directory same ticket act at on bounds =
      subst (λ (d : List DirEntry). is_known_move d run.plan.grants act ≡ true → AsksWritten (indices_of run.setup past) (command_of_move d run.plan.grants (record { handle = own; nonce = nonce }) ticket act)
      → IsOn run (event_in run past (command_of_move d run.plan.grants (record { handle = own; nonce = nonce }) ticket act) ∷ past)
      (goes_on (record { handle = own; nonce = nonce }) sent done (move_heard ticket act (done + 1) (answer_of (reply_reading (number_of_code (code_of_command (command_of_move d run.plan.grants (record { handle = own; nonce = nonce }) ticket act)))
      (answer_in run past (command_of_move d run.plan.grants (record { handle = own; nonce = nonce }) ticket act)).reply))))) same
      (move-step ticket act at on bounds)

  pub known-at : (act : Move) → slice_get run.plan.path.moves done ≡ Some act → is_known_move run.plan.directory run.plan.grants act ≡ true
  known-at act at =
      let both = and-both (not run.plan.path.outside) (list_all (is_known_move run.plan.directory run.plan.grants) run.plan.path.moves) is.complete in
      all-at (λ (a : Move). is_known_move run.plan.directory run.plan.grants a ≡ true) run.plan.path.moves done act
      (All-from_recursion (λ (a : Move). is_known_move run.plan.directory run.plan.grants a ≡ true) run.plan.path.moves (tests (is_known_move run.plan.directory run.plan.grants) run.plan.path.moves both.1)) at

  path-turn : (ticket : Option Ticket) (o : Option Move) → slice_get run.plan.path.moves done ≡ o → IsOnPath run past own ticket done
      → AsksWritten (indices_of run.setup past) (next_command run.plan (record { handle = own; nonce = nonce }) sent ticket o)
      → IsOn run (event_in run past (next_command run.plan (record { handle = own; nonce = nonce }) sent ticket o) ∷ past)
      (heard_on_path run.plan (record { handle = own; nonce = nonce }) sent ticket done o (answer_of (reply_reading (number_of_code (code_of_command (next_command run.plan (record { handle = own; nonce = nonce }) sent ticket o))) (answer_in run past (next_command run.plan (record { handle = own; nonce = nonce }) sent ticket o)).reply)))
  path-turn ticket None at on asks =
      goal-on run (event_in run past (next_command run.plan (record { handle = own; nonce = nonce }) sent ticket None) ∷ past) own
      (goal_heard run.plan sent (answer_of (reply_reading (number_of_code (code_of_command (next_command run.plan (record { handle = own; nonce = nonce }) sent ticket None))) (answer_in run past (next_command run.plan (record { handle = own; nonce = nonce }) sent ticket None)).reply)))
  path-turn ticket (Some act) at on asks = by (ticket_for run.plan.tickets act) refl
    where
      by : (o : Option HeldTicket) → ticket_for run.plan.tickets act ≡ o
          → IsOn run (event_in run past (next_command run.plan (record { handle = own; nonce = nonce }) sent ticket (Some act)) ∷ past)
          (heard_on_path run.plan (record { handle = own; nonce = nonce }) sent ticket done (Some act) (answer_of (reply_reading (number_of_code (code_of_command (next_command run.plan (record { handle = own; nonce = nonce }) sent ticket (Some act)))) (answer_in run past (next_command run.plan (record { handle = own; nonce = nonce }) sent ticket (Some act))).reply)))
      by None none =
          subst (λ (c : Command). AsksWritten (indices_of run.setup past) c
          → IsOn run (event_in run past c ∷ past)
          (heard_on_path run.plan (record { handle = own; nonce = nonce }) sent ticket done (Some act) (answer_of (reply_reading (number_of_code (code_of_command c)) (answer_in run past c).reply))))
          (sym (plain-command run.plan (record { handle = own; nonce = nonce }) ticket act none))
          (move-in run.plan.directory (sym is.directory) ticket act at on (all-at MoveHasBounds run.plan.path.moves done act is.moves at) (known-at act at)) asks
      by (Some held) found =
          let stands = found-stands run.plan.tickets act held found in
          let made = own-ticket (view_of run.setup past).world own nonce on.slot held (found-each TicketHasBounds run.plan.tickets act held is.tickets found) act stands (all-at MoveHasBounds run.plan.path.moves done act is.moves at) in
          subst (λ (c : Command). IsOn run (event_in run past c ∷ past)
          (heard_on_path run.plan (record { handle = own; nonce = nonce }) sent ticket done (Some act) (answer_of (reply_reading (number_of_code (code_of_command c)) (answer_in run past c).reply))))
          (sym (held-command run.plan (record { handle = own; nonce = nonce }) ticket act held found))
          (own-turn run is past own nonce sent done ticket act (ticket_command (record { handle = own; nonce = nonce }) held) (number_of_code codes.PolicyTicket) at on (stands-other held ticket act stands) made tt)

-- ---- the start

module _ (run : Run) (is : IsRun run) (past : List Event) where
  start-done : (seed : Digest32) → first_stop (view_of run.setup past) run.locality (start_command seed) ≡ None
      → IsOn run (event_of run.client run.locality (spelling (start_command seed)) (succeeding (view_of run.setup past) (next_number past) (start_command seed)) ∷ past)
      (start_heard (answer_of (reply_reading (number_of_code codes.StartAuthSession) (succeeding (view_of run.setup past) (next_number past) (start_command seed)).reply)))
  start-done seed first =
      let reads = read-back (start_command seed) (fits-start seed) in
      let rule = own-passed (view_of run.setup past) run.locality (start_command seed) first in
      let start = started (view_of run.setup past) (next_number past) rule in
      let event = event_of run.client run.locality (spelling (start_command seed)) (succeeding (view_of run.setup past) (next_number past) (start_command seed)) in
      let within : start.slot < 64 = start.is.within in
      let has = has-started run.setup past event (handle_of_slot start.slot)
      (done-deed (view_of run.setup past) (next_number past) run.client run.locality (spelling (start_command seed)) (start_command seed) reads ∙ start.is.deed)
      (done-use (view_of run.setup past) (next_number past) run.client run.locality (spelling (start_command seed)) (start_command seed) reads) in
      subst (λ (read : Option (Reply × Option ReplyAuth)). IsOn run (event ∷ past) (start_heard (answer_of read))) (sym start.is.reads)
      (record {
        slot = (omega arith, omega (arith, within));
        fits = tt;
        held = has.held;
        hashes = ap (λ facts. map update_of (moves_of_facts facts)) has.facts;
      })

  start-turn : (seed : Digest32)
      → IsOn run (event_in run past (start_command seed) ∷ past) (start_heard (answer_of (reply_reading (number_of_code codes.StartAuthSession) (answer_in run past (start_command seed)).reply)))
  start-turn seed =
      on-answer (λ a. IsOn run (event_of run.client run.locality (spelling (start_command seed)) a ∷ past) (start_heard (answer_of (reply_reading (number_of_code codes.StartAuthSession) a.reply))))
      (view_of run.setup past) (next_number past) run.locality (spelling (start_command seed)) (start_command seed) (read-back (start_command seed) (fits-start seed))
      (λ stop stops. subst (λ (read : Option (Reply × Option ReplyAuth)). IsOn run (event_of run.client run.locality (spelling (start_command seed)) (stopped stop) ∷ past) (start_heard (answer_of read)))
      (sym (refusal-read (number_of_code codes.StartAuthSession) stop.code
      (stop-code (first_stop (view_of run.setup past) run.locality (start_command seed)) stop
      (first-coded (view_of run.setup past) run.locality (start_command seed) (start-coded (view_of run.setup past))) stops))) tt)
      (λ first. start-done seed first)

  -- ---- any act

  turn-on : (standing : Standing) → IsOn run past standing → SendsOnWritten (indices_of run.setup past) (sends run.plan standing)
      → IsOn run (turned run (record { past = past; standing = standing }) (sends run.plan standing)).past (turned run (record { past = past; standing = standing }) (sends run.plan standing)).standing
  turn-on Starting on asks = start-turn run.plan.nonce_seed
  turn-on (Moving session sent ticket done) on asks = path-turn run is past session.handle session.nonce sent done ticket (slice_get run.plan.path.moves done) refl on asks
  turn-on (Closing session end) on asks = tt
  turn-on (Over end) on asks = tt

  other-on : (standing : Standing) (call : Call) → IsOn run past standing → LeavesAlone (Other call) standing → IsOn run (event_by run.setup past call ∷ past) standing
  other-on Starting call on leaves = tt
  other-on (Moving session sent ticket done) call on leaves = stays-on run past _ session.handle ticket ticket done on.fits on (others-stay run.setup past session.handle call on.held leaves)
  other-on (Closing session end) call on leaves = tt
  other-on (Over end) call on leaves = tt

act-on : (run : Run) → IsRun run → (course : Course) (act : Act) → IsOn run course.past course.standing → LeavesAlone act course.standing → TurnsOnWritten run act course
    → IsOn run (after_act run course act).past (after_act run course act).standing
act-on run is course Turn on leaves asks = turn-on run is course.past course.standing on asks
act-on run is course (Other call) on leaves asks = other-on run is course.past course.standing call on leaves

pub acts-on : (run : Run) → IsRun run → (acts : List Act) (course : Course) → IsOn run course.past course.standing → AreOthersApart run acts course → AreSecretsOnWritten run acts course
    → IsOn run (after_acts run acts course).past (after_acts run acts course).standing
unfolding after_acts AreOthersApart AreSecretsOnWritten
acts-on run is [] course on apart asks = on
acts-on run is (act ∷ acts) course on apart asks = acts-on run is acts (after_act run course act) (act-on run is course act on apart.0 asks.0) apart.1 asks.1

-- what holds where the run is on its path
place-hashes : (run : Run) (past : List Event) (standing : Standing) (own done : ℕ) → IsOn run past standing → place_of standing ≡ Some (own, done)
    → map update_of (moves_of_facts (facts_of run.setup past own)) ≡ map update_of (take done run.plan.path.moves)
place-hashes run past Starting own done on at = absurd (none-some (own, done) at)
place-hashes run past (Moving session sent ticket now) own done on at =
    let same : (session.handle, now) ≡ (own, done) = same_Some _ _ at in
    subst (λ (place : ℕ × ℕ). map update_of (moves_of_facts (facts_of run.setup past place.0)) ≡ map update_of (take place.1 run.plan.path.moves)) same on.hashes
place-hashes run past (Closing session end) own done on at = absurd (none-some (own, done) at)
place-hashes run past (Over end) own done on at = absurd (none-some (own, done) at)

pub path-hashes : (run : Run) (past : List Event) (acts : List Act) (session done : ℕ)
    → IsRun run → AreOthersApart run acts (begun past) → AreSecretsOnWritten run acts (begun past)
    → place_of (after_acts run acts (begun past)).standing ≡ Some (session, done)
    → map update_of (moves_of_facts (facts_of run.setup (after_acts run acts (begun past)).past session)) ≡ map update_of (take done run.plan.path.moves)
path-hashes run past acts session done is apart asks at =
    place-hashes run (after_acts run acts (begun past)).past (after_acts run acts (begun past)).standing session done (acts-on run is acts (begun past) tt apart asks) at

-- the digest is made of what the moves hash
digest-of-hashes : (d : Digest32) (moves : List Move) → digest_from d moves ≡ fold (λ before u. after_update u before) d (map update_of moves)
digest-of-hashes d [] = refl
digest-of-hashes d (act ∷ moves) = digest-of-hashes (digest_after act d) moves

same-hashes : (one other : List Move) → map update_of one ≡ map update_of other → digest_of_moves one ≡ digest_of_moves other
same-hashes one other same = digest-of-hashes zero_digest one ∙ ap (fold (λ before u. after_update u before) zero_digest) same ∙ sym (digest-of-hashes zero_digest other)

pub path-digest : (run : Run) (past : List Event) (acts : List Act) (session done : ℕ)
    → IsRun run → AreOthersApart run acts (begun past) → AreSecretsOnWritten run acts (begun past)
    → place_of (after_acts run acts (begun past)).standing ≡ Some (session, done)
    → digest_of_moves (moves_of_facts (facts_of run.setup (after_acts run acts (begun past)).past session)) ≡ digest_of_moves (take done run.plan.path.moves)
path-digest run past acts session done is apart asks at =
    same-hashes (moves_of_facts (facts_of run.setup (after_acts run acts (begun past)).past session)) (take done run.plan.path.moves) (path-hashes run past acts session done is apart asks at)

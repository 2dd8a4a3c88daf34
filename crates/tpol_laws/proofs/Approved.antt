-- The two turns of an approval: it is verified, and then made with its ticket.
use Rattle.std.proofs.Common.{◌≡◌, ◌<◌, ℕ, ◌+◌, true, List, ◌∷◌, length, refl, ap, sym, subst, ◌∙◌}
use Rattle.std.specs.Prelude.{Option, Some, None, option_map, slice_get}
use Rattle.std.specs.Option.{option_map_or}
use Rattle.std.proofs.lemmas.Option.{none-some, same_Some}
use Rattle.tpol_base.specs.declared.command_code.CommandCode.TheVariants as codes
use Rattle.tpol_base.specs.declared.digest.Digest32.{Digest32}
use Rattle.tpol_base.specs.declared.name.Name.{Name}
use Rattle.tpol_base.specs.CommandCode.{number_of_code}
use Rattle.tpol_base.specs.Digest.{is_same_digest}
use Rattle.tpol_choose.specs.Clients.{Client}
use Rattle.tpol_choose.specs.Facts.{session_after}
use Rattle.tpol_choose.specs.Moves.{approve_block, is_approved_by}
use Rattle.tpol_digest.specs.Laws.{MoveHasBounds}
use Rattle.tpol_driver.specs.declared.session.Session.{Session}
use Rattle.tpol_driver.specs.Answers.{answer_of}
use Rattle.tpol_driver.specs.Commands.{command_of_move, or_null}
use Rattle.tpol_driver.specs.Driving.{Moving, Standing, goes_on, move_heard}
use Rattle.tpol_driver.specs.Plans.{is_known_move}
use Rattle.tpol_goal.specs.Entities.{object_in_sight}
use Rattle.tpol_name.specs.declared.entries.DirEntry.{DirEntry}
use Rattle.tpol_name.specs.declared.entries.ObjectEntry.{ObjectEntry}
use Rattle.tpol_name.specs.Directories.{directory_of, line_of_object}
use Rattle.tpol_tree.specs.declared.path.Move.TheVariants.{Approve}
use Rattle.tpol_wire.specs.declared.auth_area.ReplyAuth.{ReplyAuth}
use Rattle.tpol_wire.specs.declared.command.Command.{Command}
use Rattle.tpol_wire.specs.declared.command.Command.TheVariants as commands
use Rattle.tpol_wire.specs.declared.reply.Reply.{Reply}
use Rattle.tpol_fields.specs.declared.ticket.Ticket.{Ticket}
use Rattle.tpol_wire.specs.Commands.{spelling}
use Rattle.tpol_fields.specs.Kinds.{TicketFits}
use Rattle.tpol_wire.specs.ReplyReading.{reply_reading}
use Rattle.tpm_auth.specs.Signatures.{signature_of}
use Rattle.tpm_bindings.specs.State.{SessionState}
use Rattle.tpm_rules.specs.Entity.{Object}
use Rattle.tpm_rules.specs.Objects.{verify_signature_rule}
use Rattle.tpm_rules.specs.PolicyAuthorize.{approval_hash, policy_authorize_rule}
use Rattle.tpm_rules.specs.Rule.{or_else}
use Rattle.tpm_session.specs.Slots.{bits_of, free_count}
use Rattle.tpm_world.specs.Entities.{entity_at}
use Rattle.tpm_world.specs.Objects.{object_of}
use Rattle.tpm_world.specs.Missing.{missing_object}
use Rattle.tpm_world.specs.VerifySignature as verification
use Rattle.tpm_world.specs.World.{WorldState}
use Rattle.tpm_engine.specs.declared.event.Event.{Event}
use Rattle.tpm_engine.specs.Answers.{first_stop}
use Rattle.tpm_engine.specs.Deeds.{Idle, deed_of, use_of}
use Rattle.tpm_engine.specs.Events.{Answered, event_of}
use Rattle.tpm_engine.specs.Sights.{sight_after}
use Rattle.tpm_engine.specs.Tables.{TableState}
use Rattle.tpm_engine.specs.Views.{next_number, session_state, view_of, world_at}
use Rattle.tpm_engine.proofs.Stopping.{map-none, or_else-none}
use Rattle.tpol_laws.specs.Acts.{Course, Run, Turn, after_act, answer_in, event_in}
use Rattle.tpol_laws.specs.Runs.{IsRun}
use Rattle.tpol_laws.proofs.Answered.{done-deed, done-use, own-passed, read-back}
use Rattle.tpol_laws.proofs.Fit.{fits-verify, object-handle}
use Rattle.tpol_laws.proofs.HeldTickets.{none-for-approval}
use Rattle.tpol_laws.proofs.Kept.{Held, idles}
use Rattle.tpol_laws.proofs.Moved.{Moved, after_sent, carried-out, chooser-now, move-sends, shown-moved, stands-live}
use Rattle.tpol_laws.proofs.Named.{object-found}
use Rattle.tpol_laws.proofs.Own.{own-move}
use Rattle.tpol_laws.proofs.Passing.{Passes, approve-passes, client_on}
use Rattle.tpol_laws.proofs.Seen.{SeenObject, see-object}
use Rattle.tpol_laws.proofs.Standing.{AreAlike, Stands, chooser_of}
use Rattle.tpol_laws.proofs.Step.{is-of, verifies}
use Rattle.tpol_laws.proofs.Unstopped.{entity-there, unstopped}

-- what a signature was verified to be: the key's, and the approval is that of the session's digest
pub record Approves (client : Client) (chosen : SessionState) (key : Name) (policy_ref : List ℕ) (approved signature : Digest32) : Type 0 where
  pub object : ObjectEntry
  pub shown : object_in_sight client.sight key ≡ Some object
  pub verified : verify_signature_rule object.public (is_approved_by object policy_ref approved signature) ≡ None
  pub authorized : policy_authorize_rule chosen approved true ≡ None

approves : (client : Client) (chosen : SessionState) (key : Name) (policy_ref : List ℕ) (approved signature : Digest32) → approve_block chosen policy_ref approved signature (object_in_sight client.sight key) ≡ None
    → Approves client chosen key policy_ref approved signature
approves client chosen key policy_ref approved signature opens = at (object_in_sight client.sight key) refl opens
  where
    at : (o : Option ObjectEntry) → object_in_sight client.sight key ≡ o → approve_block chosen policy_ref approved signature o ≡ None → Approves client chosen key policy_ref approved signature
    at None e h = absurd (none-some _ (sym h))
    at (Some object) e h =
        let parts = or_else-none _ _ (map-none _ _ h) in
        record { object = object; shown = e; verified = parts.0; authorized = parts.1 }

-- ---- VerifySignature

verify-unstopped : (tables : TableState) (locality : ℕ) (object : ObjectEntry) (digest signature : Digest32) → entity_at tables.world object.handle ≡ Some (Object object) → object_of object.handle tables.world.objects ≡ Some object
    → verify_signature_rule object.public (is_same_digest signature (signature_of object.secret digest)) ≡ None → first_stop tables locality (commands.VerifySignature object.handle digest signature) ≡ None
verify-unstopped tables locality object digest signature there held rule =
    let handle = entity-there tables 1 object.handle (Object object) there in
    unstopped tables locality (commands.VerifySignature object.handle digest signature) (λ i. or_else (handle i) None) refl refl refl
    (ap (λ (o : Option ObjectEntry). option_map_or (λ (e : ObjectEntry). verify_signature_rule e.public (is_same_digest signature (signature_of e.secret digest))) o (Some missing_object)) held ∙ rule)

abbrev pub verify_of : ObjectEntry → List ℕ → Digest32 → Digest32 → Command
verify_of object policy_ref approved signature = commands.VerifySignature object.handle (approval_hash approved policy_ref) signature

-- the turn after which its ticket is there
pub record Ticketed (run : Run) (first past : List Event) (session : Session) (sent done : ℕ) (chosen : SessionState) (policy_ref : List ℕ) (approved : Digest32) (object : ObjectEntry) : Type 0 where
  pub ticket : Ticket
  pub fits : TicketFits ticket
  pub made : ticket ≡ verification.ticket_of (world_at run.setup first) (approval_hash approved policy_ref) object
  pub moved : Moved run first session (sent + 1) (Some ticket) done chosen (after_act run (record { past = past; standing = Moving session sent None done }) Turn)

module _ (run : Run) (is : IsRun run) (first past : List Event) (session : Session) (sent done : ℕ) (chosen : SessionState) (on : Stands run first past session chosen) (key : Name) (policy_ref : List ℕ) (approved signature : Digest32)
    (at : slice_get run.plan.path.moves done ≡ Some (Approve key policy_ref approved signature)) where
  pub verified-with : (object : ObjectEntry) → SeenObject run.setup (view_of run.setup past).world key object → verify_signature_rule object.public (is_approved_by object policy_ref approved signature) ≡ None → Ticketed run first past session sent done chosen policy_ref approved object
  unfolding view_of
  verified-with object seen rule =
      let same : command_of_move (directory_of run.setup) run.plan.grants session None (Approve key policy_ref approved signature) ≡ verify_of object policy_ref approved signature =
      ap (λ (o : Option DirEntry). commands.VerifySignature (or_null (option_map (λ (line : DirEntry). line.handle) o)) (approval_hash approved policy_ref) signature) seen.listed in
      let unstopped = verify-unstopped (view_of run.setup past) run.locality object (approval_hash approved policy_ref) signature seen.there seen.held rule in
      let fits = fits-verify object.handle (approval_hash approved policy_ref) signature (object-handle run.setup key object.handle (object-found run.setup is.setup key (line_of_object object) seen.listed)) in
      let made = carried-out run past (verify_of object policy_ref approved signature) fits unstopped in
      let reads = read-back (verify_of object policy_ref approved signature) fits in
      let it = verifies (view_of run.setup past) (next_number past) object.handle (approval_hash approved policy_ref) signature (own-passed (view_of run.setup past) run.locality (verify_of object policy_ref approved signature) unstopped) in
      let deed : deed_of (event_in run past (verify_of object policy_ref approved signature)) ≡ Idle =
      ap (λ (a : Answered). deed_of (event_of run.client run.locality (spelling (verify_of object policy_ref approved signature)) a)) made
      ∙ done-deed (view_of run.setup past) (next_number past) run.client run.locality (spelling (verify_of object policy_ref approved signature)) (verify_of object policy_ref approved signature) reads in
      let uses : use_of (event_in run past (verify_of object policy_ref approved signature)) ≡ None =
      ap (λ (a : Answered). use_of (event_of run.client run.locality (spelling (verify_of object policy_ref approved signature)) a)) made
      ∙ done-use (view_of run.setup past) (next_number past) run.client run.locality (spelling (verify_of object policy_ref approved signature)) (verify_of object policy_ref approved signature) reads in
      let idle = idles run.setup past (event_in run past (verify_of object policy_ref approved signature)) session.handle deed uses in
      let stands : Stands run first (event_in run past (verify_of object policy_ref approved signature) ∷ past) session chosen = record {
        slot = on.slot;
        held = ap (λ (h : Held). h.held) idle.held ∙ on.held;
        unsaved = ap (λ (h : Held). h.sequence) idle.held ∙ on.unsaved;
        nonce = ap (λ (h : Held). h.state.nonce) idle.held ∙ on.nonce;
        alike = subst (λ (s : SessionState). AreAlike s chosen) (sym (ap (λ (h : Held). h.state) idle.held)) on.alike;
        since = on.since;
        world = idle.world ∙ on.world;
      } in
      let heard : goes_on session sent done (move_heard None (Approve key policy_ref approved signature) (done + 1) (answer_of (reply_reading (number_of_code codes.VerifySignature) (answer_in run past (verify_of object policy_ref approved signature)).reply))) ≡ Moving session (sent + 1) (Some it.ticket) done =
      ap (λ (a : Answered). goes_on session sent done (move_heard None (Approve key policy_ref approved signature) (done + 1) (answer_of (reply_reading (number_of_code codes.VerifySignature) a.reply)))) made
      ∙ ap (λ (read : Option (Reply × Option ReplyAuth)). goes_on session sent done (move_heard None (Approve key policy_ref approved signature) (done + 1) (answer_of read))) it.reads in
      record {
        ticket = it.ticket;
        fits = it.fits;
        made = it.made ∙ ap (verification.ticket_of (view_of run.setup past).world (approval_hash approved policy_ref)) (same_Some _ _ (sym it.held ∙ seen.held))
            ∙ ap (λ (w : WorldState). verification.ticket_of w (approval_hash approved policy_ref) object) on.world;
        moved = record {
          past = event_in run past (verify_of object policy_ref approved signature) ∷ past;
          is = move-sends run is.directory past session sent None done (Approve key policy_ref approved signature) at (none-for-approval run.plan.tickets key policy_ref approved signature)
              ∙ ap (after_sent run past session sent None done (Some (Approve key policy_ref approved signature))) same
              ∙ ap (λ (s : Standing). record { past = event_in run past (verify_of object policy_ref approved signature) ∷ past; standing = s }) heard;
          stands = stands;
        };
      }

-- ---- PolicyAuthorize, with the ticket

pub authorized-moved : (run : Run) (is : IsRun run) (first past : List Event) (session : Session) (sent done : ℕ) (chosen : SessionState) → Stands run first past session chosen → length (session_state run.setup past session.handle).facts < 512
    → (key : Name) (policy_ref : List ℕ) (approved signature : Digest32) → slice_get run.plan.path.moves done ≡ Some (Approve key policy_ref approved signature) → MoveHasBounds (Approve key policy_ref approved signature)
    → is_known_move (directory_of run.setup) run.plan.grants (Approve key policy_ref approved signature) ≡ true
    → (object : ObjectEntry) → object_in_sight (sight_after run.setup first) key ≡ Some object → policy_authorize_rule chosen approved true ≡ None
    → (ticket : Ticket) → TicketFits ticket → ticket ≡ verification.ticket_of (world_at run.setup first) (approval_hash approved policy_ref) object
    → Moved run first session (sent + 1) None (done + 1) (session_after (sight_after run.setup first) chosen (Approve key policy_ref approved signature)) (after_act run (record { past = past; standing = Moving session sent (Some ticket) done }) Turn)
unfolding view_of
authorized-moved run is first past session sent done chosen on few key policy_ref approved signature at bounds known object shown rule ticket fits made =
    let free = free_count (view_of run.setup first).sessions (bits_of (view_of run.setup first).saved) in
    let now = chooser-now run first past on.world in
    let seen = see-object run.setup is.setup (view_of run.setup past).world (is-of run.setup past) free key object (ap (λ (c : Client). object_in_sight c.sight key) now ∙ shown) in
    let sent_by = own-move run.setup is.setup (view_of run.setup past).world (is-of run.setup past) run.plan.grants is.grants session.handle session.nonce on.slot (Some ticket) (Approve key policy_ref approved signature) fits bounds known refl in
    let passes = approve-passes run.setup is.setup (view_of run.setup past) (is-of run.setup past) free run.plan.grants run.plan.goal run.locality session.handle on.slot (session_state run.setup past session.handle)
    (stands-live run first past session chosen on) few session.nonce on.nonce chosen on.alike key policy_ref approved signature object seen rule in
    let same : verification.ticket_of (view_of run.setup past).world (approval_hash approved policy_ref) object ≡ ticket =
    ap (λ (w : WorldState). verification.ticket_of w (approval_hash approved policy_ref) object) on.world ∙ sym made in
    subst (Moved run first session (sent + 1) None (done + 1) (session_after (sight_after run.setup first) chosen (Approve key policy_ref approved signature)))
    (sym (move-sends run is.directory past session sent (Some ticket) done (Approve key policy_ref approved signature) at (none-for-approval run.plan.tickets key policy_ref approved signature)))
    (shown-moved run first past session chosen on (Approve key policy_ref approved signature) (commands.PolicyAuthorize session.handle approved policy_ref key ticket) sent_by.fits sent_by.area sent done (Some ticket) sent_by.policy refl
    (subst (λ (c : Client). Passes (view_of run.setup past) run.locality session.handle (session_state run.setup past session.handle) c chosen (Approve key policy_ref approved signature) (commands.PolicyAuthorize session.handle approved policy_ref key ticket)) now
    (subst (λ (t : Ticket). Passes (view_of run.setup past) run.locality session.handle (session_state run.setup past session.handle) (client_on (view_of run.setup past).world free run.plan.grants run.plan.goal run.locality) chosen (Approve key policy_ref approved signature) (commands.PolicyAuthorize session.handle approved policy_ref key t)) same passes)))

-- ---- both

pub approve-moved : (run : Run) (is : IsRun run) (first past : List Event) (session : Session) (sent done : ℕ) (chosen : SessionState) → Stands run first past session chosen
    → ((later : List Event) → Stands run first later session chosen → length (session_state run.setup later session.handle).facts < 512)
    → (key : Name) (policy_ref : List ℕ) (approved signature : Digest32) → slice_get run.plan.path.moves done ≡ Some (Approve key policy_ref approved signature) → MoveHasBounds (Approve key policy_ref approved signature)
    → is_known_move (directory_of run.setup) run.plan.grants (Approve key policy_ref approved signature) ≡ true
    → approve_block chosen policy_ref approved signature (object_in_sight (sight_after run.setup first) key) ≡ None
    → Moved run first session (sent + 1 + 1) None (done + 1) (session_after (sight_after run.setup first) chosen (Approve key policy_ref approved signature)) (after_act run (after_act run (record { past = past; standing = Moving session sent None done }) Turn) Turn)
unfolding view_of
approve-moved run is first past session sent done chosen on few key policy_ref approved signature at bounds known opens =
    let free = free_count (view_of run.setup first).sessions (bits_of (view_of run.setup first).saved) in
    let by = approves (chooser_of run first) chosen key policy_ref approved signature opens in
    let seen = see-object run.setup is.setup (view_of run.setup past).world (is-of run.setup past) free key by.object (ap (λ (c : Client). object_in_sight c.sight key) (chooser-now run first past on.world) ∙ by.shown) in
    let verified = verified-with run is first past session sent done chosen on key policy_ref approved signature at by.object seen by.verified in
    let next = verified.moved in
    subst (λ (course : Course). Moved run first session (sent + 1 + 1) None (done + 1) (session_after (sight_after run.setup first) chosen (Approve key policy_ref approved signature)) (after_act run course Turn)) (sym next.is)
    (authorized-moved run is first next.past session (sent + 1) done chosen next.stands (few next.past next.stands) key policy_ref approved signature at bounds known by.object by.shown by.authorized verified.ticket verified.fits verified.made)

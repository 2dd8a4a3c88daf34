-- What the machine carries out of a run nothing blocks for its chooser: the start, a move, an approval, the goal.
use Rattle.std.proofs.Common.{◌≡◌, ◌<◌, ◌⊎◌, inl, inr, ℕ, zero, suc, ◌+◌, Bool, true, false, not, List, [], length, nat_eq, refl, ap, sym, subst, ◌∙◌, arith}
use Rattle.std.specs.Prelude.{Option, Some, None, is_some, option_map, slice_get, if◌then◌else◌}
use Rattle.std.specs.Option.{option_or}
use Rattle.std.proofs.lemmas.Bool.{false≢true}
use Rattle.tpm_bindings.specs.State.{SessionState}
use Rattle.tpm_engine.specs.declared.event.Event.{Event}
use Rattle.tpm_engine.specs.Answers.{first_stop, own_rule}
use Rattle.tpm_engine.specs.Events.{is_success}
use Rattle.tpm_engine.specs.SessionCommands.{free_slot, start_rule}
use Rattle.tpm_engine.specs.Sights.{sight_after}
use Rattle.tpm_engine.specs.Views.{session_state, view_of, world_at}
use Rattle.tpm_engine.proofs.Stopping.{found, unless-none}
use Rattle.tpm_rules.specs.PolicyAuthorize.{approval_hash}
use Rattle.tpm_rules.specs.Rule.{or_else, unless}
use Rattle.tpm_session.specs.Slots.{bits_of, count_below, free_count, is_free, least_below, slot_count}
use Rattle.tpm_world.specs.World.{sight_of}
use Rattle.tpol_base.specs.declared.command_code.CommandCode.TheVariants as codes
use Rattle.tpol_base.specs.declared.digest.Digest32.{Digest32}
use Rattle.tpol_base.specs.declared.name.Name.{Name}
use Rattle.tpol_base.specs.CommandCode.{number_of_code}
use Rattle.tpol_choose.specs.declared.block.Why.TheVariants.{NoSession, Outside}
use Rattle.tpol_choose.specs.Blocks.{block_of, whole_block}
use Rattle.tpol_choose.specs.Clients.{Client}
use Rattle.tpol_choose.specs.Facts.{session_after}
use Rattle.tpol_choose.specs.Goals.{goal_block}
use Rattle.tpol_choose.specs.Moves.{answered, approve_block, is_approved_by, move_block}
use Rattle.tpol_digest.specs.Laws.{MoveHasBounds}
use Rattle.tpol_driver.specs.declared.session.Session.{Session}
use Rattle.tpol_driver.specs.Answers.{answer_of}
use Rattle.tpol_driver.specs.Commands.{command_of_move, or_null, start_command}
use Rattle.tpol_driver.specs.Driving.{after_goal, goal_heard, is_verification, next_command, start_heard}
use Rattle.tpol_driver.specs.GoalUse.{goal_command}
use Rattle.tpol_driver.specs.Plans.{is_known_move}
use Rattle.tpol_driver.specs.States.{is_over}
use Rattle.tpol_goal.specs.Entities.{object_in_sight}
use Rattle.tpol_goal.specs.Goals.{HasShortOffset, entity_of_goal}
use Rattle.tpol_name.specs.declared.entries.DirEntry.{DirEntry}
use Rattle.tpol_name.specs.declared.entries.ObjectEntry.{ObjectEntry}
use Rattle.tpol_name.specs.Directories.{directory_of, line_of_object}
use Rattle.tpol_tree.specs.declared.path.Move.{Move}
use Rattle.tpol_tree.specs.declared.path.Move.TheVariants.{Approve}
use Rattle.tpol_wire.specs.declared.auth_area.ReplyAuth.{ReplyAuth}
use Rattle.tpol_wire.specs.declared.command.Command.{Command}
use Rattle.tpol_wire.specs.declared.command.Command.TheVariants as commands
use Rattle.tpol_wire.specs.declared.reply.Reply.{Reply}
use Rattle.tpol_fields.specs.declared.ticket.Ticket.{Ticket}
use Rattle.tpol_wire.specs.Commands.{FitsCommand, code_of_command}
use Rattle.tpol_wire.specs.ReplyReading.{reply_reading}
use Rattle.tpol_laws.specs.Acts.{Run, Turn, after_act, after_acts, answer_in, begun, succeeds}
use Rattle.tpol_laws.specs.Chances.{ChanceOf, IsByChance, IsProvedByChance, SignsByChance}
use Rattle.tpol_laws.specs.Runs.{IsBegun, IsRun}
use Rattle.tpol_laws.proofs.Answered.{own-passed, refusal-read}
use Rattle.tpol_laws.proofs.Codes.{HasCode, policy-own-coded, rules-coded, start-coded, verify-coded}
use Rattle.tpol_laws.proofs.Fit.{fits-start, fits-verify, object-handle, value-short}
use Rattle.tpol_laws.proofs.Moved.{Moved, after_sent, chooser-now, plain-moved, stands-live, turn-sends, time-now}
use Rattle.tpol_laws.proofs.Standing.{Stands, chooser_of, judged_after}
use Rattle.tpol_laws.proofs.Step.{is-of}
use Rattle.std.proofs.lemmas.Bool.Decides.{nat_tests}
use Rattle.tpm_bindings.specs.Facts.{last_auth}
use Rattle.tpm_world.specs.VerifySignature as verification
use Rattle.tpol_fields.specs.Kinds.{TicketFits}
use Rattle.tpm_rules.specs.Objects.{verify_signature_rule}
use Rattle.tpol_laws.proofs.Approved.{Ticketed, authorized-moved, verified-with, verify_of}
use Rattle.tpol_laws.proofs.BlockedGoal.{goal-fits, goal-found, goal-opens}
use Rattle.tpol_laws.proofs.BlockedMoves.{authorize-holds, move-opens, verify-holds}
use Rattle.tpol_laws.proofs.BlockedTurns.{SucceedsAfter, HasFailed, carried-unstopped, move-unstopped, on_path, unstopped-by}
use Rattle.tpol_laws.proofs.Goal.{auth-kept}
use Rattle.tpol_laws.proofs.GoalAt.{goal-at}
use Rattle.tpol_laws.proofs.GoalUses.{area-fits}
use Rattle.tpol_laws.proofs.Lasting.{is-kept}
use Rattle.tpol_laws.proofs.Named.{object-found}
use Rattle.tpol_laws.proofs.Own.{IsOwn, own-is-policy, own-move}
use Rattle.tpol_laws.proofs.Passing.{client_on}
use Rattle.tpol_laws.proofs.Seen.{object-line, see-object, some-map}
use Rattle.tpol_laws.proofs.HeldTickets.{none-for-approval, none-without, usable-without}

-- ---- a move that needs no ticket

pub record Goes (run : Run) (first past : List Event) (session : Session) (sent done : ℕ) (chosen : SessionState) (act : Move) : Type 0 where
  pub opens : move_block (chooser_of run first) chosen act ≡ None
  pub moved : Moved run first session (sent + 1) None (done + 1) (session_after (sight_after run.setup first) chosen act) (after_act run (on_path past session sent None done) Turn)

pub own-coded : (run : Run) (past : List Event) (own : ℕ) (act : Move) (command : Command) → IsOwn (view_of run.setup past).world own act command → HasCode (own_rule (view_of run.setup past) command)
own-coded run past own act command made = subst HasCode (sym (own-is-policy (view_of run.setup past) command made.policy)) (policy-own-coded (view_of run.setup past) command)

chance-at : (run : Run) → run.plan.directory ≡ directory_of run.setup → (past : List Event) (session : Session) (sent done : ℕ) (act : Move) → slice_get run.plan.path.moves done ≡ Some act
    → SignsByChance run.plan.grants (view_of run.setup past).world (command_of_move (directory_of run.setup) run.plan.grants session None act) → IsByChance run (on_path past session sent None done)
unfolding view_of
chance-at run directory past session sent done act at chance =
    subst (ChanceOf run past session sent None) (sym at)
    (subst (λ (d : List DirEntry). SignsByChance run.plan.grants (world_at run.setup past) (command_of_move d run.plan.grants session None act)) (sym directory) chance)

pub plain-step : (run : Run) → IsRun run → run.plan.tickets ≡ [] → (first past : List Event) (session : Session) (sent done : ℕ) (chosen : SessionState) → Stands run first past session chosen → length (session_state run.setup past session.handle).facts < 512
    → (act : Move) → slice_get run.plan.path.moves done ≡ Some act → is_verification None act ≡ false → MoveHasBounds act → is_known_move (directory_of run.setup) run.plan.grants act ≡ true
    → first_stop (view_of run.setup past) run.locality (command_of_move (directory_of run.setup) run.plan.grants session None act) ≡ None → Goes run first past session sent done chosen act ⊎ IsByChance run (on_path past session sent None done)
plain-step run is none first past session sent done chosen on few act at other bounds known unstopped =
    let free = free_count (view_of run.setup first).sessions (bits_of (view_of run.setup first).saved) in
    by (move-opens run.setup is.setup (view_of run.setup past) (is-of run.setup past) free run.plan.grants run.plan.goal run.locality session.handle (session_state run.setup past session.handle)
    (stands-live run first past session chosen on) session.nonce on.nonce chosen on.alike act other known unstopped)
  where
    by : (move_block (client_on (view_of run.setup past).world (free_count (view_of run.setup first).sessions (bits_of (view_of run.setup first).saved)) run.plan.grants run.plan.goal run.locality) chosen act ≡ None)
        ⊎ SignsByChance run.plan.grants (view_of run.setup past).world (command_of_move (directory_of run.setup) run.plan.grants session None act)
        → Goes run first past session sent done chosen act ⊎ IsByChance run (on_path past session sent None done)
    by (inl opens) =
        let now = subst (λ (c : Client). move_block c chosen act ≡ None) (chooser-now run first past on.world) opens in
        inl (record { opens = now; moved = plain-moved run is first (usable-without run.setup first run.plan.tickets none) past session sent done chosen on few act at other bounds known now })
    by (inr chance) = inr (chance-at run is.directory past session sent done act at chance)

pub plain-goes : (run : Run) → IsRun run → run.plan.tickets ≡ [] → (first past : List Event) (session : Session) (sent done : ℕ) (chosen : SessionState) → Stands run first past session chosen → length (session_state run.setup past session.handle).facts < 512
    → (act : Move) → slice_get run.plan.path.moves done ≡ Some act → is_verification None act ≡ false → MoveHasBounds act → is_known_move (directory_of run.setup) run.plan.grants act ≡ true
    → (turns : ℕ) → SucceedsAfter run turns (after_act run (on_path past session sent None done) Turn) → Goes run first past session sent done chosen act ⊎ IsByChance run (on_path past session sent None done)
plain-goes run is none first past session sent done chosen on few act at other bounds known turns succeeds =
    let made = own-move run.setup is.setup (view_of run.setup past).world (is-of run.setup past) run.plan.grants is.grants session.handle session.nonce on.slot None act tt bounds known other in
    plain-step run is none first past session sent done chosen on few act at other bounds known
    (move-unstopped run is.directory past session sent None done act at (none-without run.plan none act) (command_of_move (directory_of run.setup) run.plan.grants session None act) refl made.fits
    (own-coded run past session.handle act (command_of_move (directory_of run.setup) run.plan.grants session None act) made) turns succeeds)

-- ---- an approval

-- its first turn
pub record Verified (run : Run) (first past : List Event) (session : Session) (sent done : ℕ) (chosen : SessionState) (key : Name) (policy_ref : List ℕ) (approved signature : Digest32) : Type 0 where
  pub object : ObjectEntry
  pub shown : object_in_sight (sight_after run.setup first) key ≡ Some object
  pub rule : verify_signature_rule object.public (is_approved_by object policy_ref approved signature) ≡ None
  pub ticketed : Ticketed run first past session sent done chosen policy_ref approved object

-- VerifySignature as it is sent fits, and its own rule has a code
pub record Verifiable (run : Run) (past : List Event) (command : Command) : Type 0 where
  pub fits : FitsCommand command
  pub coded : HasCode (own_rule (view_of run.setup past) command)

pub verifiable : (run : Run) → IsRun run → (past : List Event) (session : Session) (key : Name) (policy_ref : List ℕ) (approved signature : Digest32)
    → is_known_move (directory_of run.setup) run.plan.grants (Approve key policy_ref approved signature) ≡ true
    → Verifiable run past (command_of_move (directory_of run.setup) run.plan.grants session None (Approve key policy_ref approved signature))
verifiable run is past session key policy_ref approved signature known =
    let free : ℕ = 0 in
    let it = found (object_in_sight (sight_of (view_of run.setup past).world free) key)
    (sym (some-map line_of_object (object_in_sight (sight_of (view_of run.setup past).world free) key)) ∙ ap is_some (object-line run.setup is.setup (view_of run.setup past).world (is-of run.setup past) free key) ∙ known) in
    let object = it.value in
    let seen = see-object run.setup is.setup (view_of run.setup past).world (is-of run.setup past) free key it.value it.is in
    let same : command_of_move (directory_of run.setup) run.plan.grants session None (Approve key policy_ref approved signature) ≡ verify_of it.value policy_ref approved signature =
    ap (λ (o : Option DirEntry). commands.VerifySignature (or_null (option_map (λ (line : DirEntry). line.handle) o)) (approval_hash approved policy_ref) signature) seen.listed in
    subst (Verifiable run past) (sym same) (record {
      fits = fits-verify object.handle (approval_hash approved policy_ref) signature (object-handle run.setup key object.handle (object-found run.setup is.setup key (line_of_object it.value) seen.listed));
      coded = verify-coded (view_of run.setup past).world object.handle (approval_hash approved policy_ref) signature;
    })

pub verify-step : (run : Run) → IsRun run → (first past : List Event) (session : Session) (sent done : ℕ) (chosen : SessionState) → Stands run first past session chosen
    → (key : Name) (policy_ref : List ℕ) (approved signature : Digest32) → slice_get run.plan.path.moves done ≡ Some (Approve key policy_ref approved signature)
    → is_known_move (directory_of run.setup) run.plan.grants (Approve key policy_ref approved signature) ≡ true
    → first_stop (view_of run.setup past) run.locality (command_of_move (directory_of run.setup) run.plan.grants session None (Approve key policy_ref approved signature)) ≡ None → Verified run first past session sent done chosen key policy_ref approved signature
verify-step run is first past session sent done chosen on key policy_ref approved signature at known sent_unstopped =
    let free = free_count (view_of run.setup first).sessions (bits_of (view_of run.setup first).saved) in
    let it = found (object_in_sight (sight_of (view_of run.setup past).world free) key)
    (sym (some-map line_of_object (object_in_sight (sight_of (view_of run.setup past).world free) key)) ∙ ap is_some (object-line run.setup is.setup (view_of run.setup past).world (is-of run.setup past) free key) ∙ known) in
    let seen = see-object run.setup is.setup (view_of run.setup past).world (is-of run.setup past) free key it.value it.is in
    let same : command_of_move (directory_of run.setup) run.plan.grants session None (Approve key policy_ref approved signature) ≡ verify_of it.value policy_ref approved signature =
    ap (λ (o : Option DirEntry). commands.VerifySignature (or_null (option_map (λ (line : DirEntry). line.handle) o)) (approval_hash approved policy_ref) signature) seen.listed in
    let unstopped = subst (λ (c : Command). first_stop (view_of run.setup past) run.locality c ≡ None) same sent_unstopped in
    let rule = verify-holds run.setup is.setup (view_of run.setup past) (is-of run.setup past) free run.plan.grants run.plan.goal run.locality session.handle (session_state run.setup past session.handle)
    (stands-live run first past session chosen on) session.nonce on.nonce chosen on.alike it.value (approval_hash approved policy_ref) signature seen.held unstopped in
    record {
      object = it.value;
      shown = ap (λ (c : Client). object_in_sight c.sight key) (sym (chooser-now run first past on.world)) ∙ it.is;
      rule = rule;
      ticketed = verified-with run is first past session sent done chosen on key policy_ref approved signature at it.value seen rule;
    }

pub verify-goes : (run : Run) → IsRun run → (first past : List Event) (session : Session) (sent done : ℕ) (chosen : SessionState) → Stands run first past session chosen
    → (key : Name) (policy_ref : List ℕ) (approved signature : Digest32) → slice_get run.plan.path.moves done ≡ Some (Approve key policy_ref approved signature)
    → is_known_move (directory_of run.setup) run.plan.grants (Approve key policy_ref approved signature) ≡ true
    → (turns : ℕ) → SucceedsAfter run turns (after_act run (on_path past session sent None done) Turn) → Verified run first past session sent done chosen key policy_ref approved signature
verify-goes run is first past session sent done chosen on key policy_ref approved signature at known turns succeeds =
    let can = verifiable run is past session key policy_ref approved signature known in
    verify-step run is first past session sent done chosen on key policy_ref approved signature at known
    (move-unstopped run is.directory past session sent None done (Approve key policy_ref approved signature) at (none-for-approval run.plan.tickets key policy_ref approved signature) (command_of_move (directory_of run.setup) run.plan.grants session None (Approve key policy_ref approved signature)) refl can.fits can.coded turns succeeds)

-- its second turn, with the ticket
pub record Authorized (run : Run) (first past : List Event) (session : Session) (sent done : ℕ) (chosen : SessionState) (ticket : Ticket) (act : Move) : Type 0 where
  pub opens : move_block (chooser_of run first) chosen act ≡ None
  pub moved : Moved run first session (sent + 1) None (done + 1) (session_after (sight_after run.setup first) chosen act) (after_act run (on_path past session sent (Some ticket) done) Turn)

pub authorize-step : (run : Run) → IsRun run → (first past : List Event) (session : Session) (sent done : ℕ) (chosen : SessionState) → Stands run first past session chosen → length (session_state run.setup past session.handle).facts < 512
    → (key : Name) (policy_ref : List ℕ) (approved signature : Digest32) → slice_get run.plan.path.moves done ≡ Some (Approve key policy_ref approved signature) → MoveHasBounds (Approve key policy_ref approved signature)
    → is_known_move (directory_of run.setup) run.plan.grants (Approve key policy_ref approved signature) ≡ true
    → (object : ObjectEntry) → object_in_sight (sight_after run.setup first) key ≡ Some object → verify_signature_rule object.public (is_approved_by object policy_ref approved signature) ≡ None
    → (ticket : Ticket) → TicketFits ticket → ticket ≡ verification.ticket_of (world_at run.setup first) (approval_hash approved policy_ref) object
    → first_stop (view_of run.setup past) run.locality (commands.PolicyAuthorize session.handle approved policy_ref key ticket) ≡ None → Authorized run first past session sent done chosen ticket (Approve key policy_ref approved signature)
authorize-step run is first past session sent done chosen on few key policy_ref approved signature at bounds known object shown verified ticket fits made unstopped =
    let free = free_count (view_of run.setup first).sessions (bits_of (view_of run.setup first).saved) in
    let rule = authorize-holds run.setup is.setup (view_of run.setup past) (is-of run.setup past) free run.plan.grants run.plan.goal run.locality session.handle (session_state run.setup past session.handle)
    (stands-live run first past session chosen on) session.nonce on.nonce chosen on.alike approved policy_ref key ticket unstopped in
    record {
      opens = ap (approve_block chosen policy_ref approved signature) shown ∙ (λ i. answered (or_else (verified i) (rule i)));
      moved = authorized-moved run is first past session sent done chosen on few key policy_ref approved signature at bounds known object shown rule ticket fits made;
    }

pub authorize-goes : (run : Run) → IsRun run → (first past : List Event) (session : Session) (sent done : ℕ) (chosen : SessionState) → Stands run first past session chosen → length (session_state run.setup past session.handle).facts < 512
    → (key : Name) (policy_ref : List ℕ) (approved signature : Digest32) → slice_get run.plan.path.moves done ≡ Some (Approve key policy_ref approved signature) → MoveHasBounds (Approve key policy_ref approved signature)
    → is_known_move (directory_of run.setup) run.plan.grants (Approve key policy_ref approved signature) ≡ true
    → (object : ObjectEntry) → object_in_sight (sight_after run.setup first) key ≡ Some object → verify_signature_rule object.public (is_approved_by object policy_ref approved signature) ≡ None
    → (ticket : Ticket) → TicketFits ticket → ticket ≡ verification.ticket_of (world_at run.setup first) (approval_hash approved policy_ref) object
    → (turns : ℕ) → SucceedsAfter run turns (after_act run (on_path past session sent (Some ticket) done) Turn) → Authorized run first past session sent done chosen ticket (Approve key policy_ref approved signature)
authorize-goes run is first past session sent done chosen on few key policy_ref approved signature at bounds known object shown verified ticket fits made turns succeeds =
    let own = own-move run.setup is.setup (view_of run.setup past).world (is-of run.setup past) run.plan.grants is.grants session.handle session.nonce on.slot (Some ticket) (Approve key policy_ref approved signature) fits bounds known refl in
    authorize-step run is first past session sent done chosen on few key policy_ref approved signature at bounds known object shown verified ticket fits made
    (move-unstopped run is.directory past session sent (Some ticket) done (Approve key policy_ref approved signature) at (none-for-approval run.plan.tickets key policy_ref approved signature) (commands.PolicyAuthorize session.handle approved policy_ref key ticket) refl own.fits
    (own-coded run past session.handle (Approve key policy_ref approved signature) (commands.PolicyAuthorize session.handle approved policy_ref key ticket) own) turns succeeds)

-- ---- the goal

module _ (run : Run) (is : IsBegun run) (offsets : HasShortOffset run.plan.goal) (first past : List Event) (session : Session) (sent done : ℕ) (on : Stands run first past session (judged_after run first run.plan.path.moves)) (at : slice_get run.plan.path.moves done ≡ None) where
  abbrev free : ℕ
  free = free_count (view_of run.setup first).sessions (bits_of (view_of run.setup first).saved)

  abbrev goal_sent : Command
  goal_sent = goal_command run.plan session sent

  pub goal-command-fits : FitsCommand (goal_command run.plan session sent)
  goal-command-fits =
      let it = goal-found run.setup is.setup (view_of run.setup past) (is-kept run.setup past) free run.plan.goal is.among in
      goal-fits run.setup is.setup (view_of run.setup past) (is-kept run.setup past) free run.plan.goal it.value _ is.fits offsets
      (area-fits run.plan session sent on.slot (value-short run.plan.grants.secrets (entity_of_goal run.plan.goal) is.grants.secrets) (last_auth (session_state run.setup past session.handle).facts) (auth-kept run first past session on))
      is.among it.is

  pub goal-own-coded : HasCode (own_rule (view_of run.setup past) (goal_command run.plan session sent))
  goal-own-coded = rules-coded (view_of run.setup past) (goal_command run.plan session sent)

  goal-unstopped : (turns : ℕ) → SucceedsAfter run turns (on_path past session sent None done) → first_stop (view_of run.setup past) run.locality (goal_command run.plan session sent) ≡ None
  unfolding after_acts
  goal-unstopped zero (inl served) = absurd (false≢true (ap is_over served.is))
  goal-unstopped zero (inr goal) =
      carried-unstopped run past (goal_command run.plan session sent) goal-command-fits
      (subst (λ (o : Option Move). is_success (answer_in run past (next_command run.plan session sent None o)).outcome ≡ true) at goal.success)
  goal-unstopped (suc turns) succeeds =
      unstopped-by run past (goal_command run.plan session sent) goal-command-fits goal-own-coded
      (λ bytes. after_goal session.handle (goal_heard run.plan sent (answer_of (reply_reading (number_of_code (code_of_command (goal_command run.plan session sent))) bytes))))
      (λ code is_code. subst (λ (read : Option (Reply × Option ReplyAuth)). HasFailed (after_goal session.handle (goal_heard run.plan sent (answer_of read))))
      (sym (refusal-read (number_of_code (code_of_command (goal_command run.plan session sent))) code is_code)) tt) turns
      (subst (SucceedsAfter run turns)
      (turn-sends run past session sent None done ∙ ap (λ (o : Option Move). after_sent run past session sent None done o (next_command run.plan session sent None o)) at) succeeds)

  pub goal-step : first_stop (view_of run.setup past) run.locality (goal_command run.plan session sent) ≡ None
      → (goal_block (chooser_of run first) (judged_after run first run.plan.path.moves) ≡ None) ⊎ IsByChance run (on_path past session sent None done)
  unfolding view_of
  goal-step unstopped =
      let it = goal-found run.setup is.setup (view_of run.setup past) (is-kept run.setup past) free run.plan.goal is.among in
      let there = goal-at run.setup is.setup (view_of run.setup past) (is-kept run.setup past) free run.plan.goal it.value is.fits is.among it.is in
      by (goal-opens run.setup is.setup (view_of run.setup past) (is-kept run.setup past) free run.locality run.plan is.directory session sent on.slot (session_state run.setup past session.handle) (judged_after run first run.plan.path.moves)
      (stands-live run first past session (judged_after run first run.plan.path.moves) on) on.alike (on.since ∙ time-now run first past on.world) (auth-kept run first past session on) it.value it.is there unstopped)
    where
      by : (goal_block (client_on (view_of run.setup past).world free run.plan.grants run.plan.goal run.locality) (judged_after run first run.plan.path.moves) ≡ None)
          ⊎ IsProvedByChance run.plan (view_of run.setup past).world (session_state run.setup past session.handle).nonce session sent
          → (goal_block (chooser_of run first) (judged_after run first run.plan.path.moves) ≡ None) ⊎ IsByChance run (on_path past session sent None done)
      by (inl opens) = inl (subst (λ (c : Client). goal_block c (judged_after run first run.plan.path.moves) ≡ None) (chooser-now run first past on.world) opens)
      by (inr chance) = inr (subst (ChanceOf run past session sent None) (sym at) chance)

  pub goal-goes : (turns : ℕ) → SucceedsAfter run turns (on_path past session sent None done)
      → (goal_block (chooser_of run first) (judged_after run first run.plan.path.moves) ≡ None) ⊎ IsByChance run (on_path past session sent None done)
  goal-goes turns succeeds = goal-step (goal-unstopped turns succeeds)

-- ---- the start

or-none : (o : Option ℕ) → is_some (option_or o None) ≡ true → is_some o ≡ true
or-none None h = h
or-none (Some m) h = refl

-- where there is a least free slot some are free
free-some : (test : ℕ → Bool) (n : ℕ) → is_some (least_below test n) ≡ true → nat_eq (count_below test n) 0 ≡ false
unfolding least_below count_below
free-some test zero h = absurd (false≢true h)
free-some test (suc n) h = at (test n) h (free-some test n)
  where
    at : (b : Bool) → is_some (option_or (least_below test n) (if b then Some n else None)) ≡ true → (is_some (least_below test n) ≡ true → nat_eq (count_below test n) 0 ≡ false)
        → nat_eq (count_below test n + (if b then 1 else 0)) 0 ≡ false
    at true h below = grind (arith, nat_tests)
    at false h below =
        let same : count_below test n + 0 ≡ count_below test n = omega arith in
        ap (λ (k : ℕ). nat_eq k 0) same ∙ below (or-none (least_below test n) h)

pub start-goes : (run : Run) (first : List Event) (turns : ℕ) → SucceedsAfter run turns (after_act run (begun first) Turn) → start_rule (view_of run.setup first) ≡ None
start-goes run first turns succeeds =
    own-passed (view_of run.setup first) run.locality (start_command run.plan.nonce_seed)
    (unstopped-by run first (start_command run.plan.nonce_seed) (fits-start run.plan.nonce_seed) (start-coded (view_of run.setup first))
    (λ bytes. start_heard (answer_of (reply_reading (number_of_code codes.StartAuthSession) bytes)))
    (λ code is_code. subst (λ (read : Option (Reply × Option ReplyAuth)). HasFailed (start_heard (answer_of read))) (sym (refusal-read (number_of_code codes.StartAuthSession) code is_code)) tt) turns succeeds)

-- a whole path that is not outside, on a machine that can start a session
pub whole-open : (run : Run) (first : List Event) → run.plan.path.outside ≡ false → start_rule (view_of run.setup first) ≡ None → whole_block (sight_after run.setup first) run.plan.path.outside ≡ None
unfolding sight_after
whole-open run first inside rule =
    let free = free-some (is_free (view_of run.setup first).sessions (bits_of (view_of run.setup first).saved)) slot_count (unless-none (is_some (free_slot (view_of run.setup first))) _ rule) in
    ap (λ b. or_else (block_of 0 (unless (not b) Outside)) (block_of 0 (unless (not (nat_eq (free_count (view_of run.setup first).sessions (bits_of (view_of run.setup first).saved)) 0)) NoSession))) inside
    ∙ ap (λ b. block_of 0 (unless (not b) NoSession)) free

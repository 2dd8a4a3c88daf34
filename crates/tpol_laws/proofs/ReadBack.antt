-- Each buffer that a run of a scene's plan sends is a command, whatever others do between.
use Rattle.std.proofs.Common.{◌≡◌, ◌<◌, ℕ, ◌+◌, true, false, if◌then◌else◌, List, [], ◌∷◌, ◌++◌, refl, sym, subst, arith, slice_get}
use Rattle.std.specs.Prelude.{⊤, Option, Some, None, Ok}
use Rattle.tpol_base.specs.declared.command_code.CommandCode.TheVariants as codes
use Rattle.tpol_base.specs.declared.digest.Digest32.{Digest32}
use Rattle.tpol_base.specs.declared.name.Name.{Name}
use Rattle.tpol_base.specs.CommandCode.{number_of_code}
use Rattle.tpol_digest.specs.Laws.{MoveHasBounds}
use Rattle.tpol_driver.specs.declared.end.End.{End}
use Rattle.tpol_driver.specs.declared.end.End.TheVariants as ends
use Rattle.tpol_driver.specs.declared.session.Session.{Session}
use Rattle.tpol_driver.specs.Answers.{answer_of, answer_of_reply}
use Rattle.tpol_driver.specs.Commands.{command_of_move, key_handle, start_command}
use Rattle.tpol_driver.specs.Driving.{Closing, Drive, Ends, Moving, Over, Sends, Standing, Starting, after_goal, goal_heard, goes_on, heard_on_path, is_verification, move_heard, next_command, sends, start_heard, verified}
use Rattle.tpol_driver.specs.GoalUse.{auth_of_path, goal_command}
use Rattle.tpol_driver.specs.Plans.{is_complete, is_known_move}
use Rattle.tpol_driver.specs.declared.tickets.HeldTicket.{HeldTicket}
use Rattle.tpol_driver.specs.Tickets.{ticket_for}
use Rattle.tpol_fields.specs.declared.ticket.Ticket.{Ticket}
use Rattle.tpol_goal.specs.Entities.{object_of_name}
use Rattle.tpol_goal.specs.Goals.{HasShortOffset, entity_of_goal}
use Rattle.tpol_hash.specs.Sha256.{sha256_digest}
use Rattle.tpol_name.specs.declared.entries.DirEntry.{DirEntry}
use Rattle.tpol_name.specs.Directories.{directory_of}
use Rattle.tpol_tree.specs.declared.path.Move.{Move}
use Rattle.tpol_tree.specs.declared.path.Move.TheVariants.{Approve, ApproveNv, Assert, Or}
use Rattle.tpol_wire.specs.declared.auth_area.ReplyAuth.{ReplyAuth}
use Rattle.tpol_wire.specs.declared.command.Command.{Command}
use Rattle.tpol_wire.specs.declared.command.Command.TheVariants as commands
use Rattle.tpol_wire.specs.declared.reply.Reply.{Reply}
use Rattle.tpol_wire.specs.declared.reply.Reply.TheVariants as replies
use Rattle.tpol_wire.specs.Commands.{FitsCommand, code_of_command, spelling}
use Rattle.tpol_wire.specs.Reading.{reading}
use Rattle.tpol_wire.specs.ReplyReading.{reply_reading}
use Rattle.tpm_engine.specs.declared.event.Event.{Event}
use Rattle.tpm_engine.specs.Answers.{first_stop, succeeding}
use Rattle.tpm_engine.specs.Views.{next_number, view_of}
use Rattle.tpm_session.specs.Slots.{IsSlotHandle}
use Rattle.tpol_laws.specs.Acts.{Act, Other, Run, Turn, after_acts, answer_in, begun, turned}
use Rattle.tpol_laws.specs.Runs.{IsBegun, IsRun}
use Rattle.tpol_laws.specs.HeldTickets.{TicketHasBounds}
use Rattle.tpol_laws.proofs.Answered.{on-answer, own-passed, read-back, refusal-read, stop-code}
use Rattle.tpol_laws.proofs.BlockedGoal.{goal-fits, goal-found}
use Rattle.tpol_laws.proofs.Codes.{first-coded, rules-coded}
use Rattle.tpol_laws.proofs.Finds.{all-at}
use Rattle.tpol_laws.proofs.Fit.{fits-flush, fits-start, session-handle, value-short}
use Rattle.tpol_laws.proofs.GoalUses.{area-fits}
use Rattle.tpol_laws.proofs.Lasting.{is-kept}
use Rattle.tpol_laws.proofs.Own.{TicketIsFit, own-move}
use Rattle.tpol_laws.proofs.Starts.{Start, started}
use Rattle.tpol_laws.proofs.Step.{is-of, known-at, some-ticket, verifies, verify-fits}
use Rattle.tpol_laws.proofs.HeldTickets.{found-each, found-stands, held-command, own-ticket, plain-command, stands-other}

-- ---- what is known of where a run stands

-- its session has the handle of a slot, and a ticket that it holds is within the bounds of the wire
abbrev pub Knows : Standing → Type 0
Knows Starting = ⊤
Knows (Moving session sent ticket done) = IsSlotHandle session.handle × TicketIsFit ticket
Knows (Closing session end) = IsSlotHandle session
Knows (Over end) = ⊤

goal-knows : (session : ℕ) (end : End) → IsSlotHandle session → Knows (after_goal session end)
goal-knows session (ends.Served bytes) slot = tt
goal-knows session end slot = slot

-- behind a move's command
reply-knows : (session : Session) (sent done at : ℕ) (ticket : Option Ticket) (act : Move) (reply : Reply) (auth : Option ReplyAuth) → is_verification ticket act ≡ false → IsSlotHandle session.handle
    → Knows (goes_on session sent done (move_heard ticket act at (answer_of_reply reply auth)))
reply-knows session sent done at ticket act (replies.Refused rc) auth other slot = slot
reply-knows session sent done at ticket act reply auth other slot =
    subst (λ b. Knows (goes_on session sent done (if b then verified at reply else move_heard (Some some-ticket) (Or []) at (answer_of_reply replies.FlushContext None)))) (sym other) (slot, tt)

moved-knows : (session : Session) (sent done at : ℕ) (ticket : Option Ticket) (act : Move) (read : Option (Reply × Option ReplyAuth)) → is_verification ticket act ≡ false → IsSlotHandle session.handle
    → Knows (goes_on session sent done (move_heard ticket act at (answer_of read)))
moved-knows session sent done at ticket act None other slot = slot
moved-knows session sent done at ticket act (Some found) other slot = reply-knows session sent done at ticket act found.0 found.1 other slot

module _ (run : Run) (is : IsRun run) (past : List Event) where
  -- behind the start
  start-knows : Knows (start_heard (answer_of (reply_reading (number_of_code codes.StartAuthSession) (answer_in run past (start_command run.plan.nonce_seed)).reply)))
  start-knows =
      let command = start_command run.plan.nonce_seed in
      let tables = view_of run.setup past in
      on-answer (λ a. Knows (start_heard (answer_of (reply_reading (number_of_code codes.StartAuthSession) a.reply))))
      tables (next_number past) run.locality (spelling command) command (read-back command (fits-start run.plan.nonce_seed))
      (λ stop stops. subst (λ (read : Option (Reply × Option ReplyAuth)). Knows (start_heard (answer_of read)))
      (sym (refusal-read (number_of_code codes.StartAuthSession) stop.code (stop-code (first_stop tables run.locality command) stop (first-coded tables run.locality command (rules-coded tables command)) stops))) tt)
      (λ first. started-knows (started tables (next_number past) (own-passed tables run.locality command first)))
    where
      started-knows : (start : Start (view_of run.setup past) (next_number past)) → Knows (start_heard (answer_of (reply_reading (number_of_code codes.StartAuthSession) (succeeding (view_of run.setup past) (next_number past) (start_command run.plan.nonce_seed)).reply)))
      started-knows start =
          let within : start.slot < 64 = start.is.within in
          subst (λ (read : Option (Reply × Option ReplyAuth)). Knows (start_heard (answer_of read))) (sym start.is.reads) ((omega arith, omega (arith, within)), tt)

  -- behind the verification of an approval
  verify-knows : (session : Session) (sent done : ℕ) (key : Name) (policy_ref : List ℕ) (approved signature : Digest32) (handle : ℕ) (digest : Digest32) → IsSlotHandle session.handle
      → FitsCommand (commands.VerifySignature handle digest signature)
      → Knows (goes_on session sent done (move_heard None (Approve key policy_ref approved signature) (done + 1)
      (answer_of (reply_reading (number_of_code codes.VerifySignature) (answer_in run past (commands.VerifySignature handle digest signature)).reply))))
  verify-knows session sent done key policy_ref approved signature handle digest slot fits =
      let command = commands.VerifySignature handle digest signature in
      let tables = view_of run.setup past in
      on-answer (λ a. Knows (goes_on session sent done (move_heard None (Approve key policy_ref approved signature) (done + 1) (answer_of (reply_reading (number_of_code codes.VerifySignature) a.reply)))))
      tables (next_number past) run.locality (spelling command) command (read-back command fits)
      (λ stop stops. subst (λ (read : Option (Reply × Option ReplyAuth)). Knows (goes_on session sent done (move_heard None (Approve key policy_ref approved signature) (done + 1) (answer_of read))))
      (sym (refusal-read (number_of_code codes.VerifySignature) stop.code (stop-code (first_stop tables run.locality command) stop (first-coded tables run.locality command (rules-coded tables command)) stops))) slot)
      (λ first. let it = verifies tables (next_number past) handle digest signature (own-passed tables run.locality command first) in
      subst (λ (read : Option (Reply × Option ReplyAuth)). Knows (goes_on session sent done (move_heard None (Approve key policy_ref approved signature) (done + 1) (answer_of read))))
      (sym it.reads) (slot, it.fits))

  -- ---- a move's command

  abbrev MoveGoes : Session → ℕ → ℕ → Option Ticket → Move → Command → Type 0
  MoveGoes session sent done ticket act command =
      FitsCommand command × Knows (goes_on session sent done (move_heard ticket act (done + 1) (answer_of (reply_reading (number_of_code (code_of_command command)) (answer_in run past command).reply))))

  own-goes : (session : Session) (sent done : ℕ) (ticket : Option Ticket) (act : Move) → IsSlotHandle session.handle → TicketIsFit ticket → MoveHasBounds act → is_known_move (directory_of run.setup) run.plan.grants act ≡ true
      → is_verification ticket act ≡ false → MoveGoes session sent done ticket act (command_of_move (directory_of run.setup) run.plan.grants session ticket act)
  own-goes session sent done ticket act slot fit bounds known other = (
    (own-move run.setup is.setup (view_of run.setup past).world (is-of run.setup past) run.plan.grants is.grants session.handle session.nonce slot ticket act fit bounds known other).fits,
    moved-knows session sent done (done + 1) ticket act _ other slot,
  )

  move-goes : (session : Session) (sent done : ℕ) (ticket : Option Ticket) (act : Move) → IsSlotHandle session.handle → TicketIsFit ticket → MoveHasBounds act → is_known_move (directory_of run.setup) run.plan.grants act ≡ true
      → MoveGoes session sent done ticket act (command_of_move (directory_of run.setup) run.plan.grants session ticket act)
  move-goes session sent done None (Approve key policy_ref approved signature) slot fit bounds known =
      let digest = sha256_digest (approved.bytes ++ policy_ref) in
      let fits = verify-fits run is past session.handle session.nonce sent done key digest signature (object_of_name (directory_of run.setup) key) refl known in
      (fits, verify-knows session sent done key policy_ref approved signature (key_handle (directory_of run.setup) key) digest slot fits)
  move-goes session sent done None (Assert assertion) slot fit bounds known = own-goes session sent done None (Assert assertion) slot fit bounds known refl
  move-goes session sent done None (Or digests) slot fit bounds known = own-goes session sent done None (Or digests) slot fit bounds known refl
  move-goes session sent done None (ApproveNv index approved) slot fit bounds known = own-goes session sent done None (ApproveNv index approved) slot fit bounds known refl
  move-goes session sent done (Some ticket) act slot fit bounds known = own-goes session sent done (Some ticket) act slot fit bounds known refl

  -- the plan has the setup's directory, and a ticket may stand for the move
  path-goes : (session : Session) (sent done : ℕ) (ticket : Option Ticket) (act : Move) → IsSlotHandle session.handle → TicketIsFit ticket → slice_get run.plan.path.moves done ≡ Some act
      → MoveGoes session sent done ticket act (next_command run.plan session sent ticket (Some act))
  path-goes session sent done ticket act slot fit at = by (ticket_for run.plan.tickets act) refl
    where
      bounds : MoveHasBounds act
      bounds = all-at MoveHasBounds run.plan.path.moves done act is.moves at

      by : (o : Option HeldTicket) → ticket_for run.plan.tickets act ≡ o → MoveGoes session sent done ticket act (next_command run.plan session sent ticket (Some act))
      by None none =
          let known = known-at run is past session.handle session.nonce sent done act at in
          subst (MoveGoes session sent done ticket act) (sym (plain-command run.plan session ticket act none))
          (subst (λ (d : List DirEntry). is_known_move d run.plan.grants act ≡ true → MoveGoes session sent done ticket act (command_of_move d run.plan.grants session ticket act)) (sym is.directory)
          (move-goes session sent done ticket act slot fit bounds) known)
      by (Some held) found =
          let stands = found-stands run.plan.tickets act held found in
          let made = own-ticket (view_of run.setup past).world session.handle session.nonce slot held (found-each TicketHasBounds run.plan.tickets act held is.tickets found) act stands bounds in
          subst (MoveGoes session sent done ticket act) (sym (held-command run.plan session ticket act held found))
          (made.fits, moved-knows session sent done (done + 1) ticket act _ (stands-other held ticket act stands) slot)

  next-knows : (session : Session) (sent done : ℕ) (ticket : Option Ticket) (act : Option Move) → IsSlotHandle session.handle → TicketIsFit ticket → slice_get run.plan.path.moves done ≡ act
      → Knows (heard_on_path run.plan session sent ticket done act (answer_of (reply_reading (number_of_code (code_of_command (next_command run.plan session sent ticket act))) (answer_in run past (next_command run.plan session sent ticket act)).reply)))
  next-knows session sent done ticket None slot fit at =
      goal-knows session.handle (goal_heard run.plan sent (answer_of (reply_reading (number_of_code (code_of_command (goal_command run.plan session sent))) (answer_in run past (goal_command run.plan session sent)).reply))) slot
  next-knows session sent done ticket (Some act) slot fit at = (path-goes session sent done ticket act slot fit at).1

  pub turn-knows : (at : Standing) → Knows at → Knows (turned run (record { past = past; standing = at }) (sends run.plan at)).standing
  turn-knows Starting knows = start-knows
  turn-knows (Moving session sent ticket done) knows = next-knows session sent done ticket (slice_get run.plan.path.moves done) knows.0 knows.1 refl
  turn-knows (Closing session end) knows = tt
  turn-knows (Over end) knows = tt

acts-know : (run : Run) → IsRun run → (acts : List Act) (past : List Event) (at : Standing) → Knows at → Knows (after_acts run acts (record { past = past; standing = at })).standing
unfolding after_acts
acts-know run is [] past at knows = knows
acts-know run is (Turn ∷ acts) past at knows = acts-know run is acts _ _ (turn-knows run is past at knows)
acts-know run is (Other call ∷ acts) past at knows = acts-know run is acts _ at knows

-- ---- what is sent

abbrev FitsDrive : Drive → Type 0
FitsDrive (Sends command) = FitsCommand command
FitsDrive (Ends end) = ⊤

module _ (run : Run) (begins : IsBegun run) (offsets : HasShortOffset run.plan.goal) (complete : is_complete run.plan ≡ true) where
  is-run : IsRun run
  is-run = record {
    setup = begins.setup;
    directory = begins.directory;
    tickets = begins.tickets;
    grants = begins.grants;
    moves = begins.moves;
    complete = complete;
  }

  goal-sent : (session : Session) (sent : ℕ) → IsSlotHandle session.handle → FitsCommand (goal_command run.plan session sent)
  goal-sent session sent slot =
      let it = goal-found run.setup begins.setup (view_of run.setup []) (is-kept run.setup []) 0 run.plan.goal begins.among in
      goal-fits run.setup begins.setup (view_of run.setup []) (is-kept run.setup []) 0 run.plan.goal it.value _ begins.fits offsets
      (area-fits run.plan session sent slot (value-short run.plan.grants.secrets (entity_of_goal run.plan.goal) begins.grants.secrets) (auth_of_path run.plan.path.moves) refl)
      begins.among it.is

  next-fits : (session : Session) (sent done : ℕ) (ticket : Option Ticket) (act : Option Move) → IsSlotHandle session.handle → TicketIsFit ticket → slice_get run.plan.path.moves done ≡ act
      → FitsCommand (next_command run.plan session sent ticket act)
  next-fits session sent done ticket None slot fit at = goal-sent session sent slot
  next-fits session sent done ticket (Some act) slot fit at = (path-goes run is-run [] session sent done ticket act slot fit at).0

  drive-fits : (at : Standing) → Knows at → FitsDrive (sends run.plan at)
  drive-fits Starting knows = fits-start run.plan.nonce_seed
  drive-fits (Moving session sent ticket done) knows = next-fits session sent done ticket (slice_get run.plan.path.moves done) knows.0 knows.1 refl
  drive-fits (Closing session end) knows = fits-flush session (session-handle session knows)
  drive-fits (Over end) knows = tt

  pub sent-read : (past : List Event) (acts : List Act) (command : Command) → sends run.plan (after_acts run acts (begun past)).standing ≡ Sends command → reading (spelling command) ≡ Ok command
  sent-read past acts command sent = read-back command (subst FitsDrive sent (drive-fits (after_acts run acts (begun past)).standing (acts-know run is-run acts past Starting tt)))

-- A try that is blocked is refused: some command of it is stopped, what is heard is a denial, and the session and
-- the world are left as they were; or an HMAC of it was right by chance.
use Rattle.std.proofs.Common.{◌≡◌, ◌≤◌, ◌⊎◌, inl, inr, ℕ, zero, suc, ◌+◌, true, false, List, [], ◌∷◌, refl, ap, sym, subst, ◌∙◌, arith}
use Rattle.std.specs.Prelude.{Option, Some, None, slice_get}
use Rattle.tpm_bindings.specs.State.{SessionState}
use Rattle.tpm_engine.specs.declared.event.Event.{Event}
use Rattle.tpm_engine.specs.declared.stop.Stop.{Stop}
use Rattle.tpm_engine.specs.Answers.{first_stop, own_rule, stopped}
use Rattle.tpm_engine.specs.Events.{event_of, is_success}
use Rattle.tpm_engine.specs.Sights.{sight_after}
use Rattle.tpm_engine.specs.Views.{next_number, view_of}
use Rattle.tpol_base.specs.declared.digest.Digest32.{Digest32}
use Rattle.tpol_base.specs.declared.name.Name.{Name}
use Rattle.tpol_base.specs.declared.rc.Rc.{Rc}
use Rattle.tpol_base.specs.CommandCode.{number_of_code}
use Rattle.tpol_choose.specs.Blocks.{block_of}
use Rattle.tpol_choose.specs.Facts.{session_after}
use Rattle.tpol_choose.specs.Goals.{goal_block}
use Rattle.tpol_digest.specs.Laws.{MoveHasBounds}
use Rattle.tpol_driver.specs.declared.end.End.TheVariants as ends
use Rattle.tpol_driver.specs.declared.end.Stage.{Stage}
use Rattle.tpol_driver.specs.declared.end.Stage.TheVariants as stages
use Rattle.tpol_driver.specs.declared.session.Session.{Session}
use Rattle.tpol_driver.specs.Answers.{answer_of}
use Rattle.tpol_driver.specs.Commands.{command_of_move}
use Rattle.tpol_driver.specs.Driving.{Closing, Standing, after_goal, goal_heard, goes_on, is_verification, move_heard, next_command, stage_of_move}
use Rattle.tpol_driver.specs.GoalUse.{goal_command}
use Rattle.tpol_driver.specs.Plans.{is_known_move}
use Rattle.tpol_driver.specs.Tickets.{ticket_for}
use Rattle.tpol_fields.specs.declared.ticket.Ticket.{Ticket}
use Rattle.tpol_name.specs.Directories.{directory_of}
use Rattle.tpol_tree.specs.declared.path.Move.{Move}
use Rattle.tpol_tree.specs.declared.path.Move.TheVariants.{Assert, Or, Approve, ApproveNv}
use Rattle.tpol_wire.specs.declared.auth_area.ReplyAuth.{ReplyAuth}
use Rattle.tpol_wire.specs.declared.command.Command.{Command}
use Rattle.tpol_wire.specs.declared.command.Command.TheVariants as commands
use Rattle.tpol_wire.specs.declared.reply.Reply.{Reply}
use Rattle.tpol_wire.specs.declared.reply.Reply.TheVariants as replies
use Rattle.tpol_wire.specs.Commands.{FitsCommand, code_of_command, spelling}
use Rattle.tpol_wire.specs.Replies.{spell_reply}
use Rattle.tpol_wire.specs.ReplyReading.{reply_reading}
use Rattle.tpol_laws.specs.Acts.{Course, Run, Turn, after_act, answer_in, event_in}
use Rattle.tpol_laws.specs.Chances.{IsByChance}
use Rattle.tpol_goal.specs.Goals.{HasShortOffset}
use Rattle.tpol_laws.specs.PathCommands.{commands_of_move, commands_of_moves}
use Rattle.tpol_laws.specs.Runs.{IsBegun, IsRun}
use Rattle.tpol_laws.proofs.Answered.{on-answer, read-back, refusal-read, stop-code, stop-fails, stopped-idle}
use Rattle.tpol_laws.proofs.Blocked.{IsOpen, act-open}
use Rattle.tpol_laws.proofs.BlockedSteps.{Authorized, Goes, Verifiable, Verified, authorize-step, goal-command-fits, goal-own-coded, goal-step, own-coded, plain-step, verifiable, verify-step}
use Rattle.tpol_laws.proofs.BlockedTurns.{on_path}
use Rattle.tpol_laws.proofs.Codes.{HasCode, IsCode, first-coded}
use Rattle.tpol_laws.proofs.Finds.{all-at}
use Rattle.tpol_laws.proofs.Kept.{Held, idles}
use Rattle.tpol_laws.proofs.Moved.{after_sent, move-sends, turn-sends}
use Rattle.tpol_laws.proofs.Own.{IsOwn, own-move}
use Rattle.tpol_laws.proofs.Restarted.{Keeps}
use Rattle.tpol_laws.proofs.Served.{Ahead, has-room, known-of, next-ahead, next-at}
use Rattle.tpol_laws.proofs.Standing.{Stands, chooser_of, judged_after}
use Rattle.tpol_laws.proofs.Step.{is-of}
use Rattle.tpol_laws.proofs.HeldTickets.{none-for-approval, none-without}

-- ---- a refusal

-- the run has heard a denial, and its session is left
pub record IsRefused (run : Run) (first : List Event) (session : Session) (course : Course) : Type 0 where
  pub past : List Event
  pub at : Stage
  pub rc : Rc
  pub is : course ≡ record { past = past; standing = Closing session.handle (ends.Denied at rc) }
  pub keeps : Keeps run first past session

pub keeps-of : (run : Run) (first past : List Event) (session : Session) (chosen : SessionState) → Stands run first past session chosen → chosen.start ≡ (sight_after run.setup first).time → Keeps run first past session
keeps-of run first past session chosen on start = record {
  slot = on.slot;
  held = on.held;
  unsaved = on.unsaved;
  nonce = on.nonce;
  start = on.alike.start ∙ start;
  world = on.world;
}

-- a command that is stopped leaves it
stopped-keeps : (run : Run) (first past : List Event) (session : Session) → Keeps run first past session → (buffer : List ℕ) (stop : Stop) → is_success stop.outcome ≡ false
    → Keeps run first (event_of run.client run.locality buffer (stopped stop) ∷ past) session
stopped-keeps run first past session on buffer stop fails =
    let did = stopped-idle run.client run.locality buffer stop fails in
    let idle = idles run.setup past (event_of run.client run.locality buffer (stopped stop)) session.handle did.deed did.uses in
    record {
      slot = on.slot;
      held = ap (λ (h : Held). h.held) idle.held ∙ on.held;
      unsaved = ap (λ (h : Held). h.sequence) idle.held ∙ on.unsaved;
      nonce = ap (λ (h : Held). h.state.nonce) idle.held ∙ on.nonce;
      start = ap (λ (h : Held). h.state.start) idle.held ∙ on.start;
      world = idle.world ∙ on.world;
    }

-- a command is carried out, or the run is refused, where a refusal is heard as a denial of this stage
unstopped-or : (run : Run) (first past : List Event) (session : Session) → Keeps run first past session → (command : Command) → FitsCommand command → HasCode (own_rule (view_of run.setup past) command)
    → (at : Stage) (hear : List ℕ → Standing) → ((code : ℕ) → IsCode code → hear (spell_reply (replies.Refused (record { code = code })) None) ≡ Closing session.handle (ends.Denied at (record { code = code })))
    → (first_stop (view_of run.setup past) run.locality command ≡ None) ⊎ IsRefused run first session (record { past = event_in run past command ∷ past; standing = hear (answer_in run past command).reply })
unstopped-or run first past session on command fits own at hear denied =
    on-answer (λ a. (first_stop (view_of run.setup past) run.locality command ≡ None) ⊎ IsRefused run first session (record { past = event_of run.client run.locality (spelling command) a ∷ past; standing = hear a.reply }))
    (view_of run.setup past) (next_number past) run.locality (spelling command) command (read-back command fits)
    (λ stop stops. inr (record {
      past = event_of run.client run.locality (spelling command) (stopped stop) ∷ past;
      at = at;
      rc = record { code = stop.code };
      is = ap (λ (s : Standing). record { past = event_of run.client run.locality (spelling command) (stopped stop) ∷ past; standing = s })
          (denied stop.code (stop-code (first_stop (view_of run.setup past) run.locality command) stop (first-coded (view_of run.setup past) run.locality command own) stops));
      keeps = stopped-keeps run first past session on (spelling command) stop (stop-fails (view_of run.setup past) run.locality command stop stops);
    }))
    (λ none. inl none)

-- a refusal of a move's command, and of the goal's
denied-move : (session : Session) (sent done : ℕ) (ticket : Option Ticket) (act : Move) (number code : ℕ) → IsCode code
    → goes_on session sent done (move_heard ticket act (done + 1) (answer_of (reply_reading number (spell_reply (replies.Refused (record { code = code })) None))))
    ≡ Closing session.handle (ends.Denied (stage_of_move ticket act (done + 1)) (record { code = code }))
denied-move session sent done ticket act number code is =
    ap (λ (read : Option (Reply × Option ReplyAuth)). goes_on session sent done (move_heard ticket act (done + 1) (answer_of read))) (refusal-read number code is)

module _ (run : Run) (is : IsRun run) (first : List Event) where
  -- the next command of a move is carried out, or the run is refused
  move-unstopped-or : (past : List Event) (session : Session) → Keeps run first past session → (sent : ℕ) (ticket : Option Ticket) (done : ℕ) (act : Move) → slice_get run.plan.path.moves done ≡ Some act
      → ticket_for run.plan.tickets act ≡ None → (command : Command) → command_of_move (directory_of run.setup) run.plan.grants session ticket act ≡ command → FitsCommand command → HasCode (own_rule (view_of run.setup past) command)
      → (first_stop (view_of run.setup past) run.locality command ≡ None) ⊎ IsRefused run first session (after_act run (on_path past session sent ticket done) Turn)
  move-unstopped-or past session on sent ticket done act at none command same fits own =
      subst (λ course. (first_stop (view_of run.setup past) run.locality command ≡ None) ⊎ IsRefused run first session course)
      (sym (move-sends run is.directory past session sent ticket done act at none ∙ ap (after_sent run past session sent ticket done (Some act)) same))
      (unstopped-or run first past session on command fits own (stage_of_move ticket act (done + 1))
      (λ bytes. goes_on session sent done (move_heard ticket act (done + 1) (answer_of (reply_reading (number_of_code (code_of_command command)) bytes))))
      (λ code is_code. denied-move session sent done ticket act (number_of_code (code_of_command command)) code is_code))

  goal-unstopped-or : (begins : IsBegun run) (offsets : HasShortOffset run.plan.goal) (past : List Event) (session : Session) (sent done : ℕ) (on : Stands run first past session (judged_after run first run.plan.path.moves))
      → Keeps run first past session → (at : slice_get run.plan.path.moves done ≡ None)
      → (first_stop (view_of run.setup past) run.locality (goal_command run.plan session sent) ≡ None) ⊎ IsRefused run first session (after_act run (on_path past session sent None done) Turn)
  goal-unstopped-or begins offsets past session sent done on keeps at =
      let command : Command = goal_command run.plan session sent in
      subst (λ course. (first_stop (view_of run.setup past) run.locality (goal_command run.plan session sent) ≡ None) ⊎ IsRefused run first session course)
      (sym (turn-sends run past session sent None done ∙ ap (λ (o : Option Move). after_sent run past session sent None done o (next_command run.plan session sent None o)) at))
      (unstopped-or run first past session keeps (goal_command run.plan session sent)
      (goal-command-fits run begins offsets first past session sent done on at)
      (goal-own-coded run begins offsets first past session sent done on at) stages.Goal
      (λ bytes. after_goal session.handle (goal_heard run.plan sent (answer_of (reply_reading (number_of_code (code_of_command (goal_command run.plan session sent))) bytes))))
      (λ code is_code. ap (λ (read : Option (Reply × Option ReplyAuth)). after_goal session.handle (goal_heard run.plan sent (answer_of read)))
      (refusal-read (number_of_code (code_of_command (goal_command run.plan session sent))) code is_code)))

-- ---- what a try comes to

-- a turn leads further on the path
pub record Leads (run : Run) (session : Session) (course : Course) (to : Course → Type 0) : Type 0 where
  pub past : List Event
  pub sent : ℕ
  pub ticket : Option Ticket
  pub done : ℕ
  pub is : after_act run course Turn ≡ on_path past session sent ticket done
  pub onwards : to (on_path past session sent ticket done)

-- within as many turns it is refused, or sends what is right by chance
abbrev pub EndsBy : Run → List Event → Session → ℕ → Course → Type 0
EndsBy run first session zero course = ⊥
EndsBy run first session (suc most) course =
    IsByChance run course ⊎ (IsRefused run first session (after_act run course Turn) ⊎ Leads run session course (EndsBy run first session most))

ends-now : (run : Run) (first : List Event) (session : Session) (most : ℕ) (course : Course) → IsByChance run course → EndsBy run first session (suc most) course
ends-now run first session most course chance = inl chance

ends-next : (run : Run) (first : List Event) (session : Session) (most : ℕ) (course : Course) → IsRefused run first session (after_act run course Turn) → EndsBy run first session (suc most) course
ends-next run first session most course refused = inr (inl refused)

ends-later : (run : Run) (first : List Event) (session : Session) (most : ℕ) (course : Course) (past : List Event) (sent : ℕ) (ticket : Option Ticket) (done : ℕ) → after_act run course Turn ≡ on_path past session sent ticket done
    → EndsBy run first session most (on_path past session sent ticket done) → EndsBy run first session (suc most) course
ends-later run first session most course past sent ticket done is onwards = inr (inr (record { past = past; sent = sent; ticket = ticket; done = done; is = is; onwards = onwards }))

-- in more turns too
more : (run : Run) (first : List Event) (session : Session) (n m : ℕ) (course : Course) → n ≤ m → EndsBy run first session n course → EndsBy run first session m course
more run first session zero m course fewer ends = absurd ends
more run first session (suc n) zero course fewer ends = absurd (omega (arith, fewer))
more run first session (suc n) (suc m) course fewer (inl chance) = inl chance
more run first session (suc n) (suc m) course fewer (inr (inl refused)) = inr (inl refused)
more run first session (suc n) (suc m) course fewer (inr (inr leads)) =
    ends-later run first session m course leads.past leads.sent leads.ticket leads.done leads.is (more run first session n m (on_path leads.past session leads.sent leads.ticket leads.done) (omega (arith, fewer)) leads.onwards)

some-command : (act : Move) → 1 ≤ commands_of_move act
some-command (Approve key policy_ref approved signature) = omega arith
some-command act = omega arith

module _ (run : Run) (is : IsRun run) (begins : IsBegun run) (none : run.plan.tickets ≡ []) (offsets : HasShortOffset run.plan.goal) (first : List Event) where
  abbrev Tries : List Event → Session → ℕ → ℕ → ℕ → SessionState → List Move → Type 0
  Tries past session sent done number chosen rest = IsOpen run first number chosen rest ⊎ EndsBy run first session (commands_of_moves rest + 1) (on_path past session sent None done)

  goal-tries : (past : List Event) (session : Session) (sent done number : ℕ) (chosen : SessionState) → Ahead run first past session done chosen [] → chosen.start ≡ (sight_after run.setup first).time
      → Tries past session sent done number chosen []
  goal-tries past session sent done number chosen ahead start =
      by (goal-unstopped-or run is first begins offsets past session sent done on (keeps-of run first past session chosen ahead.stands start) at)
    where
      on : Stands run first past session (judged_after run first run.plan.path.moves)
      on = subst (Stands run first past session) ahead.judged ahead.stands

      at : slice_get run.plan.path.moves done ≡ None
      at = next-at run first past session done chosen [] ahead

      opened : (goal_block (chooser_of run first) (judged_after run first run.plan.path.moves) ≡ None) ⊎ IsByChance run (on_path past session sent None done) → Tries past session sent done number chosen []
      opened (inl opens) = inl (ap (block_of 0) (subst (λ (s : SessionState). goal_block (chooser_of run first) s ≡ None) (sym ahead.judged) opens))
      opened (inr chance) = inr (ends-now run first session 0 (on_path past session sent None done) chance)

      by : (first_stop (view_of run.setup past) run.locality (goal_command run.plan session sent) ≡ None) ⊎ IsRefused run first session (after_act run (on_path past session sent None done) Turn) → Tries past session sent done number chosen []
      by (inl none) = opened (goal-step run begins offsets first past session sent done on at none)
      by (inr refused) = inr (ends-next run first session 0 (on_path past session sent None done) refused)

  plain-tries : (past : List Event) (session : Session) (sent done number : ℕ) (chosen : SessionState) (act : Move) (rest : List Move) → Ahead run first past session done chosen (act ∷ rest) → chosen.start ≡ (sight_after run.setup first).time
      → is_verification None act ≡ false
      → ((later : List Event) → Ahead run first later session (done + 1) (session_after (sight_after run.setup first) chosen act) rest
      → Tries later session (sent + 1) (done + 1) (number + 1) (session_after (sight_after run.setup first) chosen act) rest)
      → Tries past session sent done number chosen (act ∷ rest)
  plain-tries past session sent done number chosen act rest ahead start other goes =
      by (move-unstopped-or run is first past session (keeps-of run first past session chosen ahead.stands start) sent None done act at (none-without run.plan none act)
      (command_of_move (directory_of run.setup) run.plan.grants session None act) refl made.fits (own-coded run past session.handle act (command_of_move (directory_of run.setup) run.plan.grants session None act) made))
    where
      at : slice_get run.plan.path.moves done ≡ Some act
      at = next-at run first past session done chosen (act ∷ rest) ahead

      known : is_known_move (directory_of run.setup) run.plan.grants act ≡ true
      known = known-of run is past session sent done act at

      bounds : MoveHasBounds act
      bounds = all-at MoveHasBounds run.plan.path.moves done act is.moves at

      made : IsOwn (view_of run.setup past).world session.handle act (command_of_move (directory_of run.setup) run.plan.grants session None act)
      made = own-move run.setup is.setup (view_of run.setup past).world (is-of run.setup past) run.plan.grants is.grants session.handle session.nonce ahead.stands.slot None act tt bounds known other

      behind : (step : Goes run first past session sent done chosen act) → Tries step.moved.past session (sent + 1) (done + 1) (number + 1) (session_after (sight_after run.setup first) chosen act) rest
          → Tries past session sent done number chosen (act ∷ rest)
      behind step (inl opens) = inl (act-open run first number chosen act rest step.opens opens)
      behind step (inr e) = inr (more run first session (suc (commands_of_moves rest + 1)) (commands_of_moves (act ∷ rest) + 1) (on_path past session sent None done) (omega (arith, some-command act))
          (ends-later run first session (commands_of_moves rest + 1) (on_path past session sent None done) step.moved.past (sent + 1) None (done + 1) step.moved.is e))

      stepped : Goes run first past session sent done chosen act ⊎ IsByChance run (on_path past session sent None done) → Tries past session sent done number chosen (act ∷ rest)
      stepped (inl step) = behind step (goes step.moved.past (next-ahead run first past session done chosen act rest ahead step.moved.past step.moved.stands))
      stepped (inr chance) = inr (more run first session 1 (commands_of_moves (act ∷ rest) + 1) (on_path past session sent None done) (omega (arith, some-command act)) (ends-now run first session 0 (on_path past session sent None done) chance))

      by : (first_stop (view_of run.setup past) run.locality (command_of_move (directory_of run.setup) run.plan.grants session None act) ≡ None) ⊎ IsRefused run first session (after_act run (on_path past session sent None done) Turn)
          → Tries past session sent done number chosen (act ∷ rest)
      by (inl carried) = stepped (plain-step run is none first past session sent done chosen ahead.stands (has-room run first past session done chosen act rest ahead past ahead.stands) act at other bounds known carried)
      by (inr refused) = inr (more run first session 1 (commands_of_moves (act ∷ rest) + 1) (on_path past session sent None done) (omega (arith, some-command act)) (ends-next run first session 0 (on_path past session sent None done) refused))

  approve-tries : (past : List Event) (session : Session) (sent done number : ℕ) (chosen : SessionState) (key : Name) (policy_ref : List ℕ) (approved signature : Digest32) (rest : List Move)
      → Ahead run first past session done chosen (Approve key policy_ref approved signature ∷ rest) → chosen.start ≡ (sight_after run.setup first).time
      → ((later : List Event) → Ahead run first later session (done + 1) (session_after (sight_after run.setup first) chosen (Approve key policy_ref approved signature)) rest
      → Tries later session (sent + 1 + 1) (done + 1) (number + 1) (session_after (sight_after run.setup first) chosen (Approve key policy_ref approved signature)) rest)
      → Tries past session sent done number chosen (Approve key policy_ref approved signature ∷ rest)
  approve-tries past session sent done number chosen key policy_ref approved signature rest ahead start goes =
      by (move-unstopped-or run is first past session (keeps-of run first past session chosen ahead.stands start) sent None done (Approve key policy_ref approved signature) at (none-for-approval run.plan.tickets key policy_ref approved signature)
      (command_of_move (directory_of run.setup) run.plan.grants session None (Approve key policy_ref approved signature)) refl can.fits can.coded)
    where
      at : slice_get run.plan.path.moves done ≡ Some (Approve key policy_ref approved signature)
      at = next-at run first past session done chosen (Approve key policy_ref approved signature ∷ rest) ahead

      known : is_known_move (directory_of run.setup) run.plan.grants (Approve key policy_ref approved signature) ≡ true
      known = known-of run is past session sent done (Approve key policy_ref approved signature) at

      bounds : MoveHasBounds (Approve key policy_ref approved signature)
      bounds = all-at MoveHasBounds run.plan.path.moves done (Approve key policy_ref approved signature) is.moves at

      can : Verifiable run past (command_of_move (directory_of run.setup) run.plan.grants session None (Approve key policy_ref approved signature))
      can = verifiable run is past session key policy_ref approved signature known

      first-turn : (step : Verified run first past session sent done chosen key policy_ref approved signature)
          → EndsBy run first session (suc (commands_of_moves rest + 1)) (on_path step.ticketed.moved.past session (sent + 1) (Some step.ticketed.ticket) done)
          → Tries past session sent done number chosen (Approve key policy_ref approved signature ∷ rest)
      first-turn step e = inr (more run first session (suc (suc (commands_of_moves rest + 1))) (commands_of_moves (Approve key policy_ref approved signature ∷ rest) + 1) (on_path past session sent None done) (omega arith)
          (ends-later run first session (suc (commands_of_moves rest + 1)) (on_path past session sent None done) step.ticketed.moved.past (sent + 1) (Some step.ticketed.ticket) done step.ticketed.moved.is e))

      behind : (step : Verified run first past session sent done chosen key policy_ref approved signature)
          → (made : Authorized run first step.ticketed.moved.past session (sent + 1) done chosen step.ticketed.ticket (Approve key policy_ref approved signature))
          → Tries made.moved.past session (sent + 1 + 1) (done + 1) (number + 1) (session_after (sight_after run.setup first) chosen (Approve key policy_ref approved signature)) rest
          → Tries past session sent done number chosen (Approve key policy_ref approved signature ∷ rest)
      behind step made (inl opens) = inl (act-open run first number chosen (Approve key policy_ref approved signature) rest made.opens opens)
      behind step made (inr e) = first-turn step (ends-later run first session (commands_of_moves rest + 1) (on_path step.ticketed.moved.past session (sent + 1) (Some step.ticketed.ticket) done)
          made.moved.past (sent + 1 + 1) None (done + 1) made.moved.is e)

      second : (step : Verified run first past session sent done chosen key policy_ref approved signature)
          → (first_stop (view_of run.setup step.ticketed.moved.past) run.locality (commands.PolicyAuthorize session.handle approved policy_ref key step.ticketed.ticket) ≡ None)
          ⊎ IsRefused run first session (after_act run (on_path step.ticketed.moved.past session (sent + 1) (Some step.ticketed.ticket) done) Turn)
          → Tries past session sent done number chosen (Approve key policy_ref approved signature ∷ rest)
      second step (inl none) =
          let on = step.ticketed.moved.stands in
          let made = authorize-step run is first step.ticketed.moved.past session (sent + 1) done chosen on (has-room run first past session done chosen (Approve key policy_ref approved signature) rest ahead step.ticketed.moved.past on)
          key policy_ref approved signature at bounds known step.object step.shown step.rule step.ticketed.ticket step.ticketed.fits step.ticketed.made none in
          behind step made (goes made.moved.past (next-ahead run first past session done chosen (Approve key policy_ref approved signature) rest ahead made.moved.past made.moved.stands))
      second step (inr refused) = first-turn step (more run first session 1 (suc (commands_of_moves rest + 1)) (on_path step.ticketed.moved.past session (sent + 1) (Some step.ticketed.ticket) done) (omega arith)
          (ends-next run first session 0 (on_path step.ticketed.moved.past session (sent + 1) (Some step.ticketed.ticket) done) refused))

      verified : Verified run first past session sent done chosen key policy_ref approved signature → Tries past session sent done number chosen (Approve key policy_ref approved signature ∷ rest)
      verified step =
          let own = own-move run.setup is.setup (view_of run.setup step.ticketed.moved.past).world (is-of run.setup step.ticketed.moved.past) run.plan.grants is.grants session.handle session.nonce step.ticketed.moved.stands.slot
          (Some step.ticketed.ticket) (Approve key policy_ref approved signature) step.ticketed.fits bounds known refl in
          second step (move-unstopped-or run is first step.ticketed.moved.past session (keeps-of run first step.ticketed.moved.past session chosen step.ticketed.moved.stands start) (sent + 1) (Some step.ticketed.ticket) done
          (Approve key policy_ref approved signature) at (none-for-approval run.plan.tickets key policy_ref approved signature) (commands.PolicyAuthorize session.handle approved policy_ref key step.ticketed.ticket) refl own.fits
          (own-coded run step.ticketed.moved.past session.handle (Approve key policy_ref approved signature) (commands.PolicyAuthorize session.handle approved policy_ref key step.ticketed.ticket) own))

      by : (first_stop (view_of run.setup past) run.locality (command_of_move (directory_of run.setup) run.plan.grants session None (Approve key policy_ref approved signature)) ≡ None)
          ⊎ IsRefused run first session (after_act run (on_path past session sent None done) Turn)
          → Tries past session sent done number chosen (Approve key policy_ref approved signature ∷ rest)
      by (inl none) = verified (verify-step run is first past session sent done chosen ahead.stands key policy_ref approved signature at known none)
      by (inr refused) = inr (more run first session 1 (commands_of_moves (Approve key policy_ref approved signature ∷ rest) + 1) (on_path past session sent None done) (omega arith) (ends-next run first session 0 (on_path past session sent None done) refused))

  pub moves-try : (rest : List Move) (past : List Event) (session : Session) (sent done number : ℕ) (chosen : SessionState) → Ahead run first past session done chosen rest → chosen.start ≡ (sight_after run.setup first).time
      → Tries past session sent done number chosen rest
  moves-try [] past session sent done number chosen ahead start = goal-tries past session sent done number chosen ahead start
  moves-try (Approve key policy_ref approved signature ∷ rest) past session sent done number chosen ahead start =
      approve-tries past session sent done number chosen key policy_ref approved signature rest ahead start
      (λ later next. moves-try rest later session (sent + 1 + 1) (done + 1) (number + 1) (session_after (sight_after run.setup first) chosen (Approve key policy_ref approved signature)) next start)
  moves-try (Assert assertion ∷ rest) past session sent done number chosen ahead start =
      plain-tries past session sent done number chosen (Assert assertion) rest ahead start refl
      (λ later next. moves-try rest later session (sent + 1) (done + 1) (number + 1) (session_after (sight_after run.setup first) chosen (Assert assertion)) next start)
  moves-try (Or digests ∷ rest) past session sent done number chosen ahead start =
      plain-tries past session sent done number chosen (Or digests) rest ahead start refl
      (λ later next. moves-try rest later session (sent + 1) (done + 1) (number + 1) (session_after (sight_after run.setup first) chosen (Or digests)) next start)
  moves-try (ApproveNv index approved ∷ rest) past session sent done number chosen ahead start =
      plain-tries past session sent done number chosen (ApproveNv index approved) rest ahead start refl
      (λ later next. moves-try rest later session (sent + 1) (done + 1) (number + 1) (session_after (sight_after run.setup first) chosen (ApproveNv index approved)) next start)

-- A run that succeeds later: the machine carries out its next command.
use Rattle.std.proofs.Common.{◌≡◌, ◌≤◌, ◌⊎◌, inl, inr, ℕ, zero, suc, ◌+◌, true, List, ◌∷◌, length, replicate, ap, sym, subst, ◌∙◌, arith}
use Rattle.std.specs.Prelude.{Option, Some, None, slice_get, ⊤}
use Rattle.std.proofs.lemmas.Bool.{false≢true}
use Rattle.std.proofs.lemmas.Option.{none-some, same_Some, slice_get_within}
use Rattle.tpm_engine.specs.declared.event.Event.{Event}
use Rattle.tpm_engine.specs.Answers.{first_stop, own_rule}
use Rattle.tpm_engine.specs.Events.{event_of, is_success}
use Rattle.tpm_engine.specs.Views.{next_number, view_of}
use Rattle.tpol_base.specs.CommandCode.{number_of_code}
use Rattle.tpol_driver.specs.declared.end.End.{End}
use Rattle.tpol_driver.specs.declared.end.End.TheVariants as ends
use Rattle.tpol_driver.specs.declared.session.Session.{Session}
use Rattle.tpol_driver.specs.Answers.{answer_of}
use Rattle.tpol_driver.specs.Commands.{command_of_move}
use Rattle.tpol_driver.specs.Driving.{Closing, Moving, Over, Standing, Starting, goes_on, move_heard, sends}
use Rattle.tpol_driver.specs.States.{is_over}
use Rattle.tpol_driver.specs.Tickets.{ticket_for}
use Rattle.tpol_name.specs.Directories.{directory_of}
use Rattle.tpol_tree.specs.declared.path.Move.{Move}
use Rattle.tpol_wire.specs.declared.auth_area.ReplyAuth.{ReplyAuth}
use Rattle.tpol_wire.specs.declared.command.Command.{Command}
use Rattle.tpol_wire.specs.declared.reply.Reply.{Reply}
use Rattle.tpol_wire.specs.declared.reply.Reply.TheVariants as replies
use Rattle.tpol_fields.specs.declared.ticket.Ticket.{Ticket}
use Rattle.tpol_wire.specs.Commands.{FitsCommand, code_of_command, spelling}
use Rattle.tpol_wire.specs.Replies.{spell_reply}
use Rattle.tpol_wire.specs.ReplyReading.{reply_reading}
use Rattle.tpol_laws.specs.Acts.{Course, Run, Turn, after_act, after_acts, answer_in, event_in, succeeds}
use Rattle.tpol_laws.specs.Chances.{IsByChance}
use Rattle.tpol_laws.specs.Others.{place_of}
use Rattle.tpol_laws.proofs.Answered.{on-answer, read-back, refusal-read, stop-code, stop-fails}
use Rattle.tpol_laws.proofs.Codes.{HasCode, IsCode, first-coded}
use Rattle.tpol_laws.proofs.Moved.{after_sent, move-sends}

-- ---- what a run comes to

abbrev IsFailure : End → Type 0
IsFailure (ends.Served bytes) = ⊥
IsFailure (ends.Denied stage rc) = ⊤
IsFailure (ends.BadReply stage) = ⊤

-- a run that failed, whose session may not be closed yet
abbrev pub HasFailed : Standing → Type 0
HasFailed Starting = ⊥
HasFailed (Moving session sent ticket done) = ⊥
HasFailed (Closing session end) = IsFailure end
HasFailed (Over end) = IsFailure end

pub record IsServedAt (standing : Standing) : Type 0 where
  pub bytes : List ℕ
  pub is : standing ≡ Over (ends.Served bytes)

-- it stands before its goal, whose command the machine carries out
pub record IsCarriedOut (run : Run) (course : Course) : Type 0 where
  pub session : ℕ
  pub place : place_of course.standing ≡ Some (session, length run.plan.path.moves)
  pub success : succeeds run course (sends run.plan course.standing) ≡ true

abbrev pub Succeeds : Run → Course → Type 0
Succeeds run course = IsServedAt course.standing ⊎ IsCarriedOut run course

-- after as many turns of its own
abbrev pub SucceedsAfter : Run → ℕ → Course → Type 0
SucceedsAfter run turns course = Succeeds run (after_acts run (replicate turns Turn) course)

-- no run does that has failed
pub never : (run : Run) (turns : ℕ) (past : List Event) (standing : Standing) → HasFailed standing → SucceedsAfter run turns (record { past = past; standing = standing }) → ⊥
unfolding after_acts
never run turns past Starting fails succeeds = absurd fails
never run turns past (Moving session sent ticket done) fails succeeds = absurd fails
never run zero past (Closing session end) fails (inl served) = absurd (subst HasFailed served.is fails)
never run zero past (Closing session end) fails (inr goal) = absurd (none-some _ goal.place)
never run zero past (Over end) fails (inl served) = absurd (subst HasFailed served.is fails)
never run zero past (Over end) fails (inr goal) = absurd (none-some _ goal.place)
never run (suc turns) past (Closing session end) fails succeeds = never run turns _ (Over end) fails succeeds
never run (suc turns) past (Over end) fails succeeds = never run turns past (Over end) fails succeeds

-- ---- an HMAC by chance, within as many turns

pub record HasChance (run : Run) (turns : ℕ) (course : Course) : Type 0 where
  pub before : ℕ
  pub within : before ≤ turns
  pub is : IsByChance run (after_acts run (replicate before Turn) course)

pub chance-now : (run : Run) (turns : ℕ) (course : Course) → IsByChance run course → HasChance run turns course
unfolding after_acts
chance-now run turns course is = record { before = 0; within = omega arith; is = is }

pub chance-later : (run : Run) (turns : ℕ) (course : Course) → HasChance run turns (after_act run course Turn) → HasChance run (suc turns) course
unfolding after_acts
chance-later run turns course chance =
    let within : chance.before ≤ turns = chance.within in
    record { before = suc chance.before; within = omega (arith, within); is = chance.is }

-- ---- a command that is stopped is heard as a failure

pub unstopped-by : (run : Run) (past : List Event) (command : Command) → FitsCommand command → HasCode (own_rule (view_of run.setup past) command)
    → (hear : List ℕ → Standing) → ((code : ℕ) → IsCode code → HasFailed (hear (spell_reply (replies.Refused (record { code = code })) None)))
    → (turns : ℕ) → SucceedsAfter run turns (record { past = event_in run past command ∷ past; standing = hear (answer_in run past command).reply })
    → first_stop (view_of run.setup past) run.locality command ≡ None
unstopped-by run past command fits own hear refused turns =
    on-answer (λ a. SucceedsAfter run turns (record { past = event_of run.client run.locality (spelling command) a ∷ past; standing = hear a.reply }) → first_stop (view_of run.setup past) run.locality command ≡ None)
    (view_of run.setup past) (next_number past) run.locality (spelling command) command (read-back command fits)
    (λ stop stops succeeds. absurd (never run turns _ _
    (refused stop.code (stop-code (first_stop (view_of run.setup past) run.locality command) stop (first-coded (view_of run.setup past) run.locality command own) stops)) succeeds))
    (λ first succeeds. first)

-- a command that the machine carries out
pub carried-unstopped : (run : Run) (past : List Event) (command : Command) → FitsCommand command → is_success (answer_in run past command).outcome ≡ true → first_stop (view_of run.setup past) run.locality command ≡ None
carried-unstopped run past command fits =
    on-answer (λ a. is_success a.outcome ≡ true → first_stop (view_of run.setup past) run.locality command ≡ None)
    (view_of run.setup past) (next_number past) run.locality (spelling command) command (read-back command fits)
    (λ stop stops success. absurd (false≢true (sym (stop-fails (view_of run.setup past) run.locality command stop stops) ∙ success)))
    (λ first success. first)

-- ---- a turn on the path

abbrev pub on_path : List Event → Session → ℕ → Option Ticket → ℕ → Course
on_path past session sent ticket done = record { past = past; standing = Moving session sent ticket done }

refused-move : (session : Session) (sent done : ℕ) (ticket : Option Ticket) (act : Move) (number code : ℕ) → IsCode code
    → HasFailed (goes_on session sent done (move_heard ticket act (done + 1) (answer_of (reply_reading number (spell_reply (replies.Refused (record { code = code })) None)))))
refused-move session sent done ticket act number code is =
    subst (λ (read : Option (Reply × Option ReplyAuth)). HasFailed (goes_on session sent done (move_heard ticket act (done + 1) (answer_of read)))) (sym (refusal-read number code is)) tt

-- before a move that succeeds later, and that no ticket stands for, its command is not stopped
pub move-unstopped : (run : Run) → run.plan.directory ≡ directory_of run.setup → (past : List Event) (session : Session) (sent : ℕ) (ticket : Option Ticket) (done : ℕ) (act : Move) → slice_get run.plan.path.moves done ≡ Some act
    → ticket_for run.plan.tickets act ≡ None → (command : Command) → command_of_move (directory_of run.setup) run.plan.grants session ticket act ≡ command
    → FitsCommand command → HasCode (own_rule (view_of run.setup past) command)
    → (turns : ℕ) → SucceedsAfter run turns (after_act run (on_path past session sent ticket done) Turn) → first_stop (view_of run.setup past) run.locality command ≡ None
move-unstopped run directory past session sent ticket done act at none command same fits own turns succeeds =
    unstopped-by run past command fits own
    (λ bytes. goes_on session sent done (move_heard ticket act (done + 1) (answer_of (reply_reading (number_of_code (code_of_command command)) bytes))))
    (refused-move session sent done ticket act (number_of_code (code_of_command command))) turns
    (subst (SucceedsAfter run turns) (move-sends run directory past session sent ticket done act at none ∙ ap (after_sent run past session sent ticket done (Some act)) same) succeeds)

-- a run that stands before a move does not succeed yet
pub not-yet : (run : Run) (past : List Event) (session : Session) (sent : ℕ) (ticket : Option Ticket) (done : ℕ) (act : Move) → slice_get run.plan.path.moves done ≡ Some act
    → SucceedsAfter run 0 (on_path past session sent ticket done) → ⊥
unfolding after_acts
not-yet run past session sent ticket done act at (inl served) = absurd (false≢true (ap is_over served.is))
not-yet run past session sent ticket done act at (inr goal) =
    let all : done ≡ length run.plan.path.moves = ap (λ (place : ℕ × ℕ). place.1) (same_Some _ _ goal.place) in
    let within = slice_get_within run.plan.path.moves done act at in
    absurd (omega (arith, all, within))

-- a turn of it
pub next-turn : (run : Run) (turns : ℕ) (course : Course) → SucceedsAfter run (suc turns) course → SucceedsAfter run turns (after_act run course Turn)
unfolding after_acts
next-turn run turns course succeeds = succeeds

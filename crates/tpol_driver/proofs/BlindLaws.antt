-- A blind run on one of its paths: what is heard of the reply to a move's command and to the goal's.
use Rattle.std.proofs.Common.{◌≡◌, ℕ, ◌+◌, ◌∙◌, sym, ap, List, length, Option, Some, None, slice_get, le_refl}
use Rattle.std.proofs.lemmas.Option.{slice_get_past}
use Rattle.tpol_base.specs.CommandCode.{number_of_code}
use Rattle.tpol_base.specs.declared.command_code.CommandCode.{CommandCode}
use Rattle.tpol_driver.specs.Answers.{answer_of}
use Rattle.tpol_driver.specs.Blind.{BlindStanding, Trying, blind_hears, plan_at, tried, tries_on, try_heard}
use Rattle.tpol_driver.specs.Driving.{goal_heard, move_heard, next_command}
use Rattle.tpol_driver.specs.Tickets.{code_on_path}
use Rattle.tpol_driver.specs.declared.answer.Answer.{Answer}
use Rattle.tpol_driver.specs.declared.blind_end.Tried.{Tried}
use Rattle.tpol_driver.specs.declared.blind_plan.BlindPlan.{BlindPlan}
use Rattle.tpol_driver.specs.declared.session.Session.{Session}
use Rattle.tpol_driver.proofs.MoveLaws.{answer_of_move}
use Rattle.tpol_fields.specs.declared.ticket.Ticket.{Ticket}
use Rattle.tpol_goal.specs.Goals.{code_of_goal}
use Rattle.tpol_goal.proofs.Shapes.{code_of_goal-command}
use Rattle.tpol_tree.specs.declared.path.Move.{Move}
use Rattle.tpol_wire.specs.Commands.{code_of_command}
use Rattle.tpol_wire.specs.ReplyReading.{reply_reading}

pub hears_of_try_move : (plan : BlindPlan) (session : Session) (sent place : ℕ) (ticket : Option Ticket) (done : ℕ) (tries : List Tried) (act : Move) (reply : List ℕ) → slice_get (plan_at plan place).path.moves done ≡ Some act
    → tries_on plan session sent place done tries (move_heard ticket act (done + 1) (answer_of (reply_reading (number_of_code (code_on_path (plan_at plan place).tickets ticket act)) reply)))
    ≡ blind_hears plan (Trying session sent place ticket done tries) reply
hears_of_try_move plan session sent place ticket done tries act reply at =
    let F : Option Move → BlindStanding = λ left. try_heard plan session sent place ticket done tries left (answer_of (reply_reading (number_of_code (code_of_command (next_command (plan_at plan place) session sent ticket (slice_get (plan_at plan place).path.moves done)))) reply)) in
    let G : Answer → BlindStanding = λ answer. tries_on plan session sent place done tries (move_heard ticket act (done + 1) answer) in
    ap G (answer_of_move (plan_at plan place) session sent ticket done act reply at) ∙ sym (ap F at)

pub hears_of_try_goal : (plan : BlindPlan) (session : Session) (sent place : ℕ) (tries : List Tried) (reply : List ℕ)
    → tried plan session (sent + 1) place tries (goal_heard (plan_at plan place) sent (answer_of (reply_reading (number_of_code (code_of_goal plan.goal)) reply)))
    ≡ blind_hears plan (Trying session sent place None (length (plan_at plan place).path.moves) tries) reply
hears_of_try_goal plan session sent place tries reply =
    let F : Option Move → BlindStanding = λ left. try_heard plan session sent place None (length (plan_at plan place).path.moves) tries left (answer_of (reply_reading (number_of_code (code_of_command (next_command (plan_at plan place) session sent None left))) reply)) in
    let G : CommandCode → BlindStanding = λ code. tried plan session (sent + 1) place tries (goal_heard (plan_at plan place) sent (answer_of (reply_reading (number_of_code code) reply))) in
    sym (ap F (slice_get_past (plan_at plan place).path.moves (length (plan_at plan place).path.moves) (le_refl _)) ∙ ap G (code_of_goal-command plan.goal _))

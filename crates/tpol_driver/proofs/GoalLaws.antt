-- A session that has all moves of its path hears the reply to the goal's command.
use Rattle.std.proofs.Common.{◌≡◌, ℕ, ◌∙◌, ap, List, [], length, Option, None, le_refl}
use Rattle.std.proofs.lemmas.Option.{slice_get_past}
use Rattle.tpol_base.specs.CommandCode.{number_of_code}
use Rattle.tpol_base.specs.declared.command_code.CommandCode.{CommandCode}
use Rattle.tpol_driver.specs.Answers.{answer_of}
use Rattle.tpol_driver.specs.Driving.{Standing, Moving, after_goal, code_sent, earned_by, goal_heard, heard_on_path, hears, next_command, sends}
use Rattle.tpol_driver.specs.Tickets.{earned_in}
use Rattle.tpol_driver.specs.declared.plan.Plan.{Plan}
use Rattle.tpol_driver.specs.declared.session.Session.{Session}
use Rattle.tpol_goal.specs.Goals.{code_of_goal}
use Rattle.tpol_goal.proofs.Shapes.{code_of_goal-command}
use Rattle.tpol_tree.specs.declared.path.Move.{Move}
use Rattle.tpol_wire.specs.Commands.{code_of_command}
use Rattle.tpol_wire.specs.ReplyReading.{reply_reading}

pub hears_of_goal : (plan : Plan) (session : Session) (sent : ℕ) (reply : List ℕ) → hears plan (Moving session sent None (length plan.path.moves)) reply ≡ after_goal session.handle (goal_heard plan sent (answer_of (reply_reading (number_of_code (code_of_goal plan.goal)) reply)))
hears_of_goal plan session sent reply =
    let F : Option Move → Standing = λ left. heard_on_path plan session sent None (length plan.path.moves) left (answer_of (reply_reading (number_of_code (code_of_command (next_command plan session sent None left))) reply)) in
    let G : CommandCode → Standing = λ code. after_goal session.handle (goal_heard plan sent (answer_of (reply_reading (number_of_code code) reply))) in
    ap F (slice_get_past plan.path.moves (length plan.path.moves) (le_refl _)) ∙ ap G (code_of_goal-command plan.goal _)

-- it earns no ticket
pub earned_of_goal : (plan : Plan) (session : Session) (sent : ℕ) (reply : List ℕ) → earned_by plan (Moving session sent None (length plan.path.moves)) reply ≡ []
earned_of_goal plan session sent reply =
    ap (λ (left : Option Move). earned_in left (answer_of (reply_reading (code_sent (sends plan (Moving session sent None (length plan.path.moves)))) reply)))
    (slice_get_past plan.path.moves (length plan.path.moves) (le_refl _))

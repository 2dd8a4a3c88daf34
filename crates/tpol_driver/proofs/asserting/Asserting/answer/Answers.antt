use Rattle.std.proofs.Common.{◌≡◌, List, subst, IfOk}
use Rattle.tpol_base.specs.CommandCode.{number_of_code}
use Rattle.tpol_driver.specs.Answers.{answer_of}
use Rattle.tpol_driver.specs.Driving.{Driving, code_sent, sends}
use Rattle.tpol_driver.specs.Tickets.{code_on_path}
use Rattle.tpol_driver.specs.declared.answer.Answer.{Answer}
use Rattle.tpol_driver.specs.declared.tickets.HeldTicket.{HeldTicket}
use Rattle.tpol_driver.proofs.MoveLaws.{answer_of_move}
use Rattle.tpol_driver.proofs.asserting.Asserting.answer.Goals as goal
use Rattle.tpol_wire.specs.ReplyReading.{reply_reading}

pub returns-clause-answer : goal.returns-clause-answer
returns-clause-answer c =
    let A : Answer → Type 0 = λ said. IfOk c.answer.result (λ answer. answer ≡ said) in
    let T : List HeldTicket → Type 0 = λ tickets. A (answer_of (reply_reading (number_of_code (code_on_path tickets c.self.inside.ticket c.move_at.result.now)) c.args.reply.now)) in
    let P : Driving → Type 0 = λ d. A (answer_of (reply_reading (code_sent (sends d.plan d.standing)) c.args.reply.now)) in
    let same = answer_of_move c.self.inside.plan c.self.inside.session c.self.inside.sent c.self.inside.ticket c.self.inside.done c.move_at.result.now c.args.reply.now c.move_at.ensures in
    subst P c.self.view_is (subst A same (subst T c.as_slice.ensures c.answer.ensures.answer))

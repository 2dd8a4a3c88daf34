use Rattle.std.proofs.Common.{◌++◌, List, length, None, subst, sym, ap, ◌∙◌}
use Rattle.std.proofs.lemmas.List.{append-nil}
use Rattle.tpol_driver.specs.Driving.{Driving, Standing, Moving, after_goal, earned_by, goal_heard, hears}
use Rattle.tpol_driver.specs.States.{IsNext}
use Rattle.tpol_driver.specs.Answers.{answer_of}
use Rattle.tpol_driver.specs.declared.end.End.{End}
use Rattle.tpol_driver.specs.declared.plan.Plan.{Plan}
use Rattle.tpol_driver.specs.declared.tickets.HeldTicket.{HeldTicket}
use Rattle.tpol_driver.proofs.GoalLaws.{earned_of_goal, hears_of_goal}
use Rattle.tpol_driver.proofs.ready.Ready.take.Goals as goal
use Rattle.tpol_base.specs.CommandCode.{number_of_code}
use Rattle.tpol_goal.specs.Goals.{code_of_goal}
use Rattle.tpol_wire.specs.ReplyReading.{reply_reading}

pub returns-in-Ok : goal.returns-in-Ok
returns-in-Ok c = record {
  next =
      let P : Driving → Type 0 = λ d. IsNext d.plan (d.earned ++ earned_by d.plan d.standing c.args.reply.now) (hears d.plan d.standing c.args.reply.now) c.after.result in
      let E : List HeldTicket → Type 0 = λ earned. IsNext c.self.inside.plan (c.self.inside.earned ++ earned) (hears c.self.inside.plan (Moving c.self.inside.session c.self.inside.sent None (length c.self.inside.plan.path.moves)) c.args.reply.now) c.after.result in
      let B : List HeldTicket → Type 0 = λ earned. IsNext c.self.inside.plan earned (hears c.self.inside.plan (Moving c.self.inside.session c.self.inside.sent None (length c.self.inside.plan.path.moves)) c.args.reply.now) c.after.result in
      let Q : Standing → Type 0 = λ standing. IsNext c.self.inside.plan c.self.inside.earned standing c.after.result in
      let G : Plan → End = λ plan. goal_heard plan c.self.inside.sent (answer_of (reply_reading (number_of_code (code_of_goal plan.goal)) c.args.reply.now)) in
      let heard = ap (after_goal c.self.inside.session.handle) (c.in-Ok.ensures ∙ ap G c.lent.ensures) in
      let of_goal = hears_of_goal c.self.inside.plan c.self.inside.session c.self.inside.sent c.args.reply.now in
      let none = earned_of_goal c.self.inside.plan c.self.inside.session c.self.inside.sent c.args.reply.now in
      subst P c.self.view_is (subst E (sym none) (subst B (sym (append-nil c.self.inside.earned)) (subst Q (heard ∙ sym of_goal) c.after.ensures)));
  back = tt;
}

use Rattle.std.proofs.Common.{◌+◌, ap, subst, ◌∙◌}
use Rattle.tpol_base.specs.CommandCode.{number_of_code}
use Rattle.tpol_driver.specs.Answers.{answer_of}
use Rattle.tpol_driver.specs.Blind.{BlindDriving, BlindStanding, blind_hears, tried}
use Rattle.tpol_driver.specs.BlindStates.{IsBlindNext}
use Rattle.tpol_driver.specs.Driving.{goal_heard}
use Rattle.tpol_driver.specs.declared.end.End.{End}
use Rattle.tpol_driver.specs.declared.plan.Plan.{Plan}
use Rattle.tpol_driver.proofs.BlindLaws.{hears_of_try_goal}
use Rattle.tpol_driver.proofs.blind_ready.BlindReady.take.Goals as goal
use Rattle.tpol_goal.specs.Goals.{code_of_goal}
use Rattle.tpol_wire.specs.ReplyReading.{reply_reading}

pub returns-in-Ok-clause-next : goal.returns-in-Ok-clause-next
returns-in-Ok-clause-next c =
    let now = c.self.inside.attempt in
    let P : BlindDriving → Type 0 = λ d. IsBlindNext d.plan (blind_hears d.plan d.standing c.args.reply.now) c.after_goal.result in
    let S : BlindStanding → Type 0 = λ standing. IsBlindNext now.plan standing c.after_goal.result in
    let E : End → Type 0 = λ end. S (tried now.plan now.session (now.sent + 1) now.place now.tries end) in
    let G : Plan → End = λ plan. goal_heard plan now.sent (answer_of (reply_reading (number_of_code (code_of_goal plan.goal)) c.args.reply.now)) in
    let heard = c.in-Ok.ensures ∙ ap G c.along-plan.ensures in
    let mirrored = hears_of_try_goal now.plan now.session now.sent now.place now.tries c.args.reply.now in
    subst P c.self.view_is (subst S mirrored (subst E heard c.after_goal.ensures))

use Rattle.std.proofs.Common.{◌≡◌, ◌+◌, Some, ap, arith, slice_get, subst, ◌∙◌}
use Rattle.tpol_base.specs.CommandCode.{number_of_code}
use Rattle.tpol_driver.specs.Answers.{answer_of}
use Rattle.tpol_driver.specs.Blind.{BlindDriving, BlindStanding, blind_hears, tries_on}
use Rattle.tpol_driver.specs.BlindStates.{IsBlindNext}
use Rattle.tpol_driver.specs.Driving.{move_heard}
use Rattle.tpol_driver.specs.Tickets.{code_on_path}
use Rattle.tpol_driver.specs.declared.answer.Answer.{Answer}
use Rattle.tpol_driver.specs.declared.plan.Plan.{Plan}
use Rattle.tpol_driver.specs.declared.step.Heard.{Heard}
use Rattle.tpol_driver.proofs.BlindLaws.{hears_of_try_move}
use Rattle.tpol_driver.proofs.Numbers.{few_before}
use Rattle.tpol_driver.proofs.blind_asserting.BlindAsserting.take.Goals as goal
use Rattle.tpol_wire.specs.ReplyReading.{reply_reading}

pub goes_on-requires-clause-few : goal.goes_on-requires-clause-few
goes_on-requires-clause-few c =
    omega (arith, c.self.invariant.1, few_before c.self.inside.ticket c.said-heard.result c.said-heard.ensures.once)

pub returns-in-Ok-clause-next : goal.returns-in-Ok-clause-next
returns-in-Ok-clause-next c =
    let now = c.self.inside.attempt in
    let act = c.move_at-act.result.now in
    let P : BlindDriving → Type 0 = λ d. IsBlindNext d.plan (blind_hears d.plan d.standing c.args.reply.now) c.goes_on.result in
    let S : BlindStanding → Type 0 = λ standing. IsBlindNext now.plan standing c.goes_on.result in
    let H : Heard → Type 0 = λ heard. S (tries_on now.plan now.session now.sent now.place c.self.inside.done now.tries heard) in
    let A : Plan → Answer = λ plan. answer_of (reply_reading (number_of_code (code_on_path plan.tickets c.self.inside.ticket act)) c.args.reply.now) in
    let M : Answer → Heard = λ answer. move_heard c.self.inside.ticket act (c.self.inside.done + 1) answer in
    let at = subst (λ (plan : Plan). slice_get plan.path.moves c.self.inside.done ≡ Some act) c.along-plan.ensures c.move_at-act.ensures in
    let heard = c.said-heard.ensures.heard ∙ ap M (c.in-Ok.ensures.answer ∙ ap A c.along-plan.ensures) in
    let mirrored = hears_of_try_move now.plan now.session now.sent now.place c.self.inside.ticket c.self.inside.done now.tries act c.args.reply.now at in
    subst P c.self.view_is (subst S mirrored (subst H heard c.goes_on.ensures))

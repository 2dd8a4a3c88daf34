use Rattle.std.proofs.Common.{ℕ, List, Option, None, subst}
use Rattle.tpol_driver.specs.Blind.{BlindDriving, Trying, first_try, tried_from}
use Rattle.tpol_driver.specs.BlindStates.{IsBlindNext}
use Rattle.tpol_driver.specs.declared.blind_end.Tried.{Tried}
use Rattle.tpol_driver.specs.declared.blind_plan.BlindPlan.{BlindPlan}
use Rattle.tpol_driver.proofs.blind_start.BlindStart.started.Goals as goal

pub returns-in-Some : goal.returns-in-Some
returns-in-Some c =
    let plan : BlindPlan = c.self.inside.plan in
    let P : BlindDriving → Type 0 = λ d. IsBlindNext d.plan (first_try d.plan c.args.session (tried_from d.plan 0)) c.stands_before.result in
    let O : Option ℕ → Type 0 = λ found. IsBlindNext plan (first_try plan c.args.session found) c.stands_before.result in
    let L : List Tried → Type 0 = λ tries. IsBlindNext plan (Trying c.args.session 1 c.in-Some.place None 0 tries) c.stands_before.result in
    subst P c.self.view_is (subst O c.in-Some.ensures (subst L c.self.invariant.0 c.stands_before.ensures))

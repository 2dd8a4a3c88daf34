use Rattle.std.proofs.Common.{◌≡◌, Bool, IfOk, Option, Some, ap, subst, sym, true, ℕ}
use Rattle.tpol_runs.specs.Courses.{heard_by}
use Rattle.tpol_runs.specs.declared.after.After.TheVariants.{Goes}
use Rattle.tpol_runs.specs.Underway.{Underway}
use Rattle.tpol_runs.proofs.Outcomes.{if_ok}
use Rattle.tpol_runs.proofs.runs.step.Goals as goal

pub returns-in-Some-clause-goes : goal.returns-in-Some-clause-goes
returns-in-Some-clause-goes c =
    let reply = c.args.reply.now in
    let P : Option Underway → Type 0 = λ run. IfOk c.step.result (λ stepped. stepped ≡ true → (reset_count : ℕ) → heard_by run reset_count reply ≡ Some (Goes c.step.new.self)) in
    subst P (sym c.in-Some.is) (if_ok c.step.result (λ (stepped : Bool) goes is reset_count. ap Some (goes is reset_count)) c.step.ensures.goes)

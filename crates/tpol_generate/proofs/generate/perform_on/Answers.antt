use Rattle.std.proofs.Common.{◌≡◌, ◌≤◌, arith, codes, subst, sym}
use Rattle.std.specs.Prelude.{IfOk}
use Rattle.tpol_perform.specs.declared.new_run.NewRun.{NewRun}
use Rattle.tpol_generate.specs.FirstRun.{performed_run}
use Rattle.tpol_perform.specs.Performance.{start_of}
use Rattle.tpol_generate.proofs.generate.perform_on.Goals as goal

pub perform_run-requires-clause-locality : goal.perform_run-requires-clause-locality
perform_run-requires-clause-locality c = subst (λ (run : NewRun). run.locality ≤ 4) (sym c.in-Ok.ensures) (omega arith)

pub returns-in-Ok-clause-told : goal.returns-in-Ok-clause-told
returns-in-Ok-clause-told c =
    subst (λ (run : NewRun). IfOk c.perform_run.result (λ performance. performance ≡ performed_run c.args.scenario.now (codes "gen") run (start_of c.args.setup)))
    c.in-Ok.ensures c.perform_run.ensures.told

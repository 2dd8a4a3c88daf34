use Rattle.std.proofs.Common.{◌≡◌, subst}
use Rattle.std.specs.Prelude.{IfOk}
use Rattle.tpol_perform.specs.Performance.{PerformanceState}
use Rattle.tpol_generate.proofs.GeneratedRuns.{run_on_setup}
use Rattle.tpol_generate.proofs.generate.generated_performance.Goals as goal

pub returns-in-Ok-clause-told : goal.returns-in-Ok-clause-told
returns-in-Ok-clause-told c =
    subst (λ (p : PerformanceState). IfOk c.performance_from.result (λ performance. performance ≡ p))
    (run_on_setup c.args.order c.args.document.closed c.digest.result c.in-Ok.setup c.digest.ensures c.in-Ok.ensures.setup)
    c.performance_from.ensures.told

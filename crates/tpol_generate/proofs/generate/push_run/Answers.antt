use Rattle.std.proofs.Common.{◌≡◌, ◌++◌, subst}
use Rattle.std.specs.Prelude.{OnOk}
use Rattle.tpol_generate.specs.Generate.{generated_run_lines}
use Rattle.tpol_perform.specs.Performance.{PerformanceState}
use Rattle.tpol_generate.proofs.generate.push_run.Goals as goal

pub returns : goal.returns
returns c =
    subst (λ (p : PerformanceState). OnOk c.push_performance-pushed.result (c.push_performance-pushed.new.lines ≡ c.args.lines.now ++ generated_run_lines p))
    c.in_ok-performance.ensures.told c.push_performance-pushed.ensures

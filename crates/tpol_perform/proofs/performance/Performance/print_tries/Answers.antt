use Rattle.std.proofs.Common.{◌<◌, ◌+◌, arith, drop, length, sym, ap, ◌∙◌}
use Rattle.std.specs.Prelude.{min}
use Rattle.tpol_perform.specs.Blind.{with_tries}
use Rattle.tpol_perform.specs.Performance.{PerformanceState}
use Rattle.tpol_perform.proofs.TryLines.{tries_step}
use Rattle.tpol_perform.proofs.performance.Performance.print_tries.Goals as goal

pub loop-index-preserved : goal.loop-index-preserved
loop-index-preserved c =
    let index = c.loop-index.index in
    let within : index < min (length c.args.paths.now) (length c.args.tries.now) = omega (arith, c.loop-index-test.true, c.min-index-end.ensures) in
    record {
      told = ap (λ (p : PerformanceState). with_tries (index + 1 + 1) (drop (index + 1) c.args.paths.now) (drop (index + 1) c.args.tries.now) p) c.in_ok-print_tried.ensures
          ∙ sym (tries_step index c.args.paths.now c.args.tries.now c.index-paths-index.result _ c.loop-index.self within c.index-paths-index.is)
          ∙ c.loop-index.invariant.told;
      past = ap (λ (p : PerformanceState). p.past) c.in_ok-print_tried.ensures ∙ c.loop-index.invariant.past;
      setup = ap (λ (p : PerformanceState). p.setup) c.in_ok-print_tried.ensures ∙ c.loop-index.invariant.setup;
    }

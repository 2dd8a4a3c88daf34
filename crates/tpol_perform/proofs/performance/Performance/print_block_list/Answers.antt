use Rattle.std.proofs.Common.{refl, sym, ◌∙◌}
use Rattle.tpol_perform.proofs.TurnSteps.{blocks_step}
use Rattle.tpol_perform.proofs.performance.Performance.print_block_list.Goals as goal

pub loop-index-preserved : goal.loop-index-preserved
loop-index-preserved c =
    let index = c.loop-index.index in
    record {
      told = λ sight run paths e f.
          sym (blocks_step sight run paths c.args.blocks.now c.args.labels.now index c.loop-index.self c.print_block.new.self c.get.result.now _ _ e f c.loop-index-test.true c.in_ok-print_block.ensures.told c.get.ensures refl)
          ∙ c.loop-index.invariant.told sight run paths e f;
      past = c.in_ok-print_block.ensures.past ∙ c.loop-index.invariant.past;
      setup = c.in_ok-print_block.ensures.setup ∙ c.loop-index.invariant.setup;
    }

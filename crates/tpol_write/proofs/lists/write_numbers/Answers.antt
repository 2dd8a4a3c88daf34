use Rattle.tpol_write.specs.Objects.{natural}
use Rattle.tpol_write.proofs.Reading.{ended, ended_reads, one_more, one_more_reads}
use Rattle.tpol_write.proofs.Steps.{on_ok}
use Rattle.tpol_write.proofs.lists.write_numbers.Goals as goal

pub returns-clause-tokens : goal.returns-clause-tokens
returns-clause-tokens c =
    on_ok c.end_list.result (λ ends. ended natural c.args.numbers.now c.loop-number.number-index c.loop-number-test.false c.loop-number.invariant.0 ends) c.end_list.ensures

pub returns-clause-reads : goal.returns-clause-reads
returns-clause-reads c =
    on_ok c.end_list.result (λ _. ended_reads natural c.args.numbers.now c.loop-number.number-index c.loop-number-test.false c.loop-number.invariant.1) c.end_list.ensures

pub loop-number-preserved : goal.loop-number-preserved
loop-number-preserved c =
    let l = c.loop-number in (
      one_more natural c.args.numbers.now l.number-index 0 c.from.result c.from.ensures c.loop-number-test.true l.invariant.0 c.in_ok-natural.ensures.tokens,
      one_more_reads natural c.args.numbers.now l.number-index 0 c.from.result c.from.ensures c.loop-number-test.true l.invariant.1 c.in_ok-natural.ensures.reads,
    )

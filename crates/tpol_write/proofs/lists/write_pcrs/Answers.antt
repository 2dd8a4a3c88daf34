use Rattle.tpol_write.specs.Wishes.{pcr_value}
use Rattle.tpol_write.proofs.Reading.{ended, ended_reads, one_more, one_more_reads}
use Rattle.tpol_write.proofs.Steps.{on_ok}
use Rattle.tpol_write.proofs.lists.write_pcrs.Goals as goal

pub returns-clause-tokens : goal.returns-clause-tokens
returns-clause-tokens c =
    on_ok c.end_list.result (λ ends. ended pcr_value c.args.values.now c.loop-pcr.pcr-index c.loop-pcr-test.false c.loop-pcr.invariant.0 ends) c.end_list.ensures

pub returns-clause-reads : goal.returns-clause-reads
returns-clause-reads c =
    on_ok c.end_list.result (λ _. ended_reads pcr_value c.args.values.now c.loop-pcr.pcr-index c.loop-pcr-test.false c.loop-pcr.invariant.1) c.end_list.ensures

pub loop-pcr-preserved : goal.loop-pcr-preserved
loop-pcr-preserved c =
    let l = c.loop-pcr in (
      one_more pcr_value c.args.values.now l.pcr-index c.loop-pcr-item.result c.loop-pcr-item.result c.loop-pcr-item.is c.loop-pcr-test.true l.invariant.0 c.in_ok-write_pcr.ensures.tokens,
      one_more_reads pcr_value c.args.values.now l.pcr-index c.loop-pcr-item.result c.loop-pcr-item.result c.loop-pcr-item.is c.loop-pcr-test.true l.invariant.1 c.in_ok-write_pcr.ensures.reads,
    )

use Rattle.tpol_write.proofs.RowTokens.{counter_timer_reads}
use Rattle.tpol_write.proofs.Steps.{on_ok, step}
use Rattle.tpol_write.proofs.rows.counter_timer.Goals as goal

pub returns-clause-tokens : goal.returns-clause-tokens
returns-clause-tokens c =
    on_ok c.end_typed.result (λ ends. (step c.in_ok-begin_object.ensures (step c.in_ok-put_comparison.ensures.tokens ends))) c.end_typed.ensures

pub returns-clause-reads : goal.returns-clause-reads
returns-clause-reads c = on_ok c.end_typed.result (λ _. counter_timer_reads c.args.operand.now c.args.offset c.args.operation c.in_ok-put_comparison.ensures.reads) c.end_typed.ensures

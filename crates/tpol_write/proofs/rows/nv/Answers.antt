use Rattle.tpol_write.proofs.RowTokens.{nv_reads, nv_tokens}
use Rattle.tpol_write.proofs.Steps.{on_ok, spelled, step}
use Rattle.tpol_write.proofs.rows.nv.Goals as goal

pub returns-clause-tokens : goal.returns-clause-tokens
returns-clause-tokens c =
    on_ok c.end_typed.result (λ ends. spelled (nv_tokens c.args.index.now c.args.operand.now c.args.offset c.args.operation)
    (step c.in_ok-begin_object.ensures (step c.in_ok-put_index.ensures.tokens (step c.in_ok-put_comparison.ensures.tokens ends)))) c.end_typed.ensures

pub returns-clause-reads : goal.returns-clause-reads
returns-clause-reads c = on_ok c.end_typed.result (λ _. nv_reads c.args.index.now c.args.operand.now c.args.offset c.args.operation c.in_ok-put_index.ensures.reads c.in_ok-put_comparison.ensures.reads) c.end_typed.ensures

use Rattle.tpol_write.proofs.DocumentTokens.{by_index_reads, by_index_tokens}
use Rattle.tpol_write.proofs.Steps.{on_ok, spelled, step}
use Rattle.tpol_write.proofs.policy.by_index.Goals as goal

pub returns-clause-tokens : goal.returns-clause-tokens
returns-clause-tokens c =
    on_ok c.end_typed.result (λ ends. spelled (by_index_tokens c.args.index.now)
    (step c.in_ok-begin_object.ensures (step c.in_ok-put_index.ensures.tokens ends))) c.end_typed.ensures

pub returns-clause-reads : goal.returns-clause-reads
returns-clause-reads c = on_ok c.end_typed.result (λ _. by_index_reads c.args.index.now c.in_ok-put_index.ensures.reads) c.end_typed.ensures

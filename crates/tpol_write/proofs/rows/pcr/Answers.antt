use Rattle.tpol_write.proofs.RowTokens.{pcr_reads, pcr_tokens}
use Rattle.tpol_write.proofs.Steps.{on_ok, spelled, step}
use Rattle.tpol_write.proofs.rows.pcr.Goals as goal

pub returns-clause-tokens : goal.returns-clause-tokens
returns-clause-tokens c =
    on_ok c.end_typed.result (λ ends. spelled (pcr_tokens c.args.pcrs.now)
    (step c.in_ok-begin_object.ensures (step c.in_ok-put_pcrs.ensures.tokens ends))) c.end_typed.ensures

pub returns-clause-reads : goal.returns-clause-reads
returns-clause-reads c = on_ok c.end_typed.result (λ _. pcr_reads c.args.pcrs.now c.in_ok-put_pcrs.ensures.reads) c.end_typed.ensures

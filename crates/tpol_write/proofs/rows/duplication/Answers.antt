use Rattle.tpol_write.proofs.RowTokens.{duplication_reads, duplication_tokens}
use Rattle.tpol_write.proofs.Steps.{on_ok, spelled, step}
use Rattle.tpol_write.proofs.rows.duplication.Goals as goal

pub returns-clause-tokens : goal.returns-clause-tokens
returns-clause-tokens c =
    on_ok c.end_typed.result (λ ends. spelled (duplication_tokens c.args.name.now c.args.parent.now c.args.include)
    (step c.in_ok-begin_object.ensures (step c.in_ok-put_truth.ensures (step c.in_ok-put_parent.ensures.tokens (step c.in_ok-put_name.ensures ends))))) c.end_typed.ensures

pub returns-clause-reads : goal.returns-clause-reads
returns-clause-reads c = on_ok c.end_typed.result (λ _. duplication_reads c.args.name.now c.args.parent.now c.args.include c.in_ok-put_parent.ensures.reads) c.end_typed.ensures

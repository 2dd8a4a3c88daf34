use Rattle.tpol_write.proofs.RowTokens.{name_hash_reads, name_hash_tokens}
use Rattle.tpol_write.proofs.Steps.{on_ok, spelled, step}
use Rattle.tpol_write.proofs.rows.name_hash.Goals as goal

pub returns-clause-tokens : goal.returns-clause-tokens
returns-clause-tokens c =
    on_ok c.end_typed.result (λ ends. spelled (name_hash_tokens c.args.names.now)
    (step c.in_ok-begin_object.ensures (step c.in_ok-put_names.ensures ends))) c.end_typed.ensures

pub returns-clause-reads : goal.returns-clause-reads
returns-clause-reads c = on_ok c.end_typed.result (λ _. name_hash_reads c.args.names.now) c.end_typed.ensures

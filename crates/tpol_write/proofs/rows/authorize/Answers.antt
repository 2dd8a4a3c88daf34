use Rattle.tpol_write.proofs.RowTokens.{authorize_reads, authorize_tokens}
use Rattle.tpol_write.proofs.Steps.{on_ok, spelled, step}
use Rattle.tpol_write.proofs.rows.authorize.Goals as goal

pub returns-clause-tokens : goal.returns-clause-tokens
returns-clause-tokens c =
    on_ok c.end_typed.result (λ ends. spelled (authorize_tokens c.args.key.now c.args.policy_ref.now)
    (step c.in_ok-begin_object.ensures (step c.in_ok-put_key.ensures.tokens (step c.in_ok-put_bytes.ensures ends)))) c.end_typed.ensures

pub returns-clause-reads : goal.returns-clause-reads
returns-clause-reads c = on_ok c.end_typed.result (λ _. authorize_reads c.args.key.now c.args.policy_ref.now c.in_ok-put_key.ensures.reads) c.end_typed.ensures

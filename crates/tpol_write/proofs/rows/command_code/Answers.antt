use Rattle.tpol_write.proofs.Steps.{on_ok, step}
use Rattle.tpol_write.proofs.rows.command_code.Goals as goal

pub returns-clause-tokens : goal.returns-clause-tokens
returns-clause-tokens c =
    on_ok c.end_typed.result (λ ends.
    step c.in_ok-begin_object.ensures (step c.in_ok-put_code.ensures ends)) c.end_typed.ensures

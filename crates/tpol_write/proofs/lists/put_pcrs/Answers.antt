use Rattle.tpol_write.proofs.Steps.{on_ok, step}
use Rattle.tpol_write.proofs.lists.put_pcrs.Goals as goal

pub returns-in_ok-name-in-Current-clause-tokens : goal.returns-in_ok-name-in-Current-clause-tokens
returns-in_ok-name-in-Current-clause-tokens c =
    rw c.in-Current.is (on_ok c.write_mask.result (λ ends. step c.in_ok-name-in-Current.ensures ends) c.write_mask.ensures.tokens)

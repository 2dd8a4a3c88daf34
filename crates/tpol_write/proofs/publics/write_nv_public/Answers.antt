use Rattle.tpol_write.proofs.Steps.{on_ok, step}
use Rattle.tpol_write.proofs.publics.write_nv_public.Goals as goal

pub returns-clause-tokens : goal.returns-clause-tokens
returns-clause-tokens c =
    on_ok c.end_object.result (λ ends.
    step c.in_ok-begin_object.ensures
    (step c.in_ok-put_number.ensures.tokens
    (step c.in_ok-put_bytes.ensures
    (step c.in_ok-put_short.ensures.tokens
    (step c.in_ok-put_word.ensures
    (step c.in_ok-put_number-2.ensures.tokens ends)))))) c.end_object.ensures

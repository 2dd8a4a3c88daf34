use Rattle.std.proofs.Common.{◌∷◌, [], ap, codes}
use Rattle.json.specs.Token.{key, string}
use Rattle.tpol_write.proofs.Steps.{on_ok, spelled, step}
use Rattle.tpol_write.proofs.publics.write_object_public.Goals as goal

pub returns-clause-tokens : goal.returns-clause-tokens
returns-clause-tokens c =
    on_ok c.end_object.result (λ ends.
    step c.in_ok-begin_object.ensures
    (step c.in_ok-put_bytes.ensures
    (step c.in_ok-put_word.ensures
    (step c.in_ok-put_number.ensures.tokens
    (step (spelled (ap (λ name. key (codes "scheme") ∷ string name ∷ []) c.scheme_name.ensures) c.in_ok-put_word-2.ensures)
    (step c.in_ok-put_word-3.ensures
    (step c.in_ok-put_bytes-2.ensures ends))))))) c.end_object.ensures

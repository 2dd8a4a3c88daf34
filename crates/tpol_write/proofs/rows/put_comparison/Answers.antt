use Rattle.std.proofs.Common.{◌∷◌, [], ap, codes}
use Rattle.json.specs.Token.{key, string}
use Rattle.tpol_write.proofs.Steps.{on_ok, spelled, step}
use Rattle.tpol_write.proofs.rows.put_comparison.Goals as goal

pub returns-clause-tokens : goal.returns-clause-tokens
returns-clause-tokens c =
    on_ok c.put_word.result (λ ends.
    step c.in_ok-put_short.ensures.tokens
    (step c.in_ok-put_bytes.ensures (spelled (ap (λ word. key (codes "operation") ∷ string word ∷ []) c.name.ensures) ends))) c.put_word.ensures

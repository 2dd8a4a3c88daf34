use Rattle.std.proofs.Common.{refl, ap, ◌∙◌}
use Rattle.tpol_tree.specs.Facts.{moves_of}
use Rattle.tpol_digest.specs.Term.{bytes_of_term, term_of_moves}
use Rattle.tpol_digest.proofs.TermLaws.{digest_of_moves-term}
use Rattle.tpol_digest.proofs.moves.run_facts.Goals as goal

pub returns-clause-term : goal.returns-clause-term
returns-clause-term c =
    c.digest_after_facts.ensures
    ∙ digest_of_moves-term (moves_of c.as_slice.result.now) _ refl
    ∙ ap (λ facts. bytes_of_term (term_of_moves (moves_of facts))) c.as_slice.ensures

use Rattle.std.proofs.Common.{List, subst}
use Rattle.tpol_tree.specs.declared.facts.Fact.{Fact}
use Rattle.tpm_bindings.specs.Agreement.{Agree}
use Rattle.tpm_bindings.specs.Facts.{moves_of}
use Rattle.tpm_engine.proofs.Authorizing.{used-facts}
use Rattle.tpm_engine.proofs.tables.Tables.close_session.Goals as goal

-- src/closing.rt
pub returns-clause-agree : goal.returns-clause-agree
returns-clause-agree c =
    subst (λ (facts : List Fact). Agree (moves_of facts))
    (used-facts c.self.inside.sessions c.args.closing.session c.in-Some.used.now c.close_use-facts.result c.in-Some.ensures c.close_use-facts.ensures.facts)
    c.facts.ensures.agree

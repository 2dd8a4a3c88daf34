use Rattle.std.proofs.Common.{ℕ, Option, ap, subst, sym, ◌∙◌}
use Rattle.tpm_rules.specs.Rule.{Obeys}
use Rattle.tpm_engine.specs.Answers.{own_rule}
use Rattle.tpm_engine.specs.Tables.{TableState}
use Rattle.tpm_engine.proofs.OwnRules.{found-rule, policy-own}
use Rattle.tpm_engine.proofs.Slotted.{tables_of}
use Rattle.tpm_engine.proofs.tables.Tables.own_rule.Goals as goal

-- src/commands.rt
pub returns-in-Some-find : goal.returns-in-Some-find
returns-in-Some-find c =
    let inside = c.self.inside in
    let tables = tables_of inside.world inside.sessions inside.saved in
    let own : ℕ × ℕ = (c.in-Some.handle, c.in-Some.field-0-1) in
    record {
      rule = subst (λ (rule : Option ℕ). Obeys c.rule.result rule)
          (sym (sym (ap (λ (t : TableState). own_rule t c.args.command.now) c.self.view_is)
          ∙ (policy-own tables c.args.command.now own (sym c.in-Some.ensures.session)
          ∙ found-rule tables c.args.command.now own c.in-Some-find.session.now (sym c.in-Some.ensures.session) c.in-Some-find.ensures)))
          c.rule.ensures.rule;
    }

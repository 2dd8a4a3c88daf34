use Rattle.std.proofs.Common.{rules, ◌≡◌, ap, sym, subst, ◌∙◌, length, replicate}
use Rattle.tpol_lines.proofs.WholeLines.{lines_of_texts, tails_of_texts}
use Rattle.tpol_lines.specs.Whole.{HaveTails, whole_lines}
use Rattle.tpol_lines.proofs.lines.Lines.of_texts.Goals as goal

pub invariant_of-result : goal.invariant_of-result
invariant_of-result c =
    let numbers : c.resize.new.self.items ≡ replicate (length c.args.texts) 0 = search rules in
    subst (λ l. HaveTails c.new.result l c.args.texts) (sym numbers) (tails_of_texts c.new.result c.args.texts)

pub returns : goal.returns
returns c =
    let numbers : c.resize.new.self.items ≡ replicate (length c.args.texts) 0 = search rules in
    ap (λ l. whole_lines c.new.result l c.args.texts) numbers ∙ lines_of_texts c.new.result c.args.texts

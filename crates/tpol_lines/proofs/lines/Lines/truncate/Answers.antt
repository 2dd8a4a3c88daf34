use Rattle.std.proofs.Common.{length, take, ap, sym, subst, ◌∙◌, arith}
use Rattle.tpol_lines.proofs.WholeLines.{first_lines, first_tails, length-whole}
use Rattle.tpol_lines.specs.Whole.{HaveTails, whole_lines}
use Rattle.tpol_lines.proofs.lines.Lines.truncate.Goals as goal

pub truncate-requires : goal.truncate-requires
truncate-requires c =
    omega (arith, c.requires, ap length c.self.view_is, length-whole c.self.inside.tails c.self.inside.tail_numbers.items c.self.inside.heads c.self.invariant)

pub invariant_of-self : goal.invariant_of-self
invariant_of-self c =
    subst (λ l. HaveTails c.self.inside.tails l c.truncate.new.self) (sym c.truncate-2.ensures.items)
    (subst (λ l. HaveTails c.self.inside.tails (take c.args.count c.self.inside.tail_numbers.items) l) (sym c.truncate.ensures)
    (first_tails c.self.inside.tails c.self.inside.tail_numbers.items c.self.inside.heads c.args.count c.self.invariant))

pub returns : goal.returns
returns c =
    ap (λ l. whole_lines c.self.inside.tails l c.truncate.new.self) c.truncate-2.ensures.items
    ∙ ap (whole_lines c.self.inside.tails (take c.args.count c.self.inside.tail_numbers.items)) c.truncate.ensures
    ∙ first_lines c.self.inside.tails c.self.inside.tail_numbers.items c.self.inside.heads c.args.count c.self.invariant
    ∙ ap (take c.args.count) c.self.view_is

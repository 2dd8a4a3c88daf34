use Rattle.std.proofs.Common.{sym, ap, ◌∙◌, length}
use Rattle.tpol_lines.proofs.WholeLines.{length-whole}
use Rattle.tpol_lines.proofs.lines.Lines.len.Goals as goal

pub returns : goal.returns
returns c =
    c.len.ensures
    ∙ sym (length-whole c.self.inside.tails c.self.inside.tail_numbers.items c.self.inside.heads c.self.invariant)
    ∙ ap length c.self.view_is

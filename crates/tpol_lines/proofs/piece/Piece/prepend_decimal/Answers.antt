use Rattle.std.proofs.Common.{length-drop, arith}
use Rattle.tpol_lines.proofs.Numbers.{decimal_is_short}
use Rattle.tpol_lines.proofs.piece.Piece.prepend_decimal.Goals as goal

pub write_digits-self-inside-requires : goal.write_digits-self-inside-requires
write_digits-self-inside-requires c =
    let short = decimal_is_short c.from.result (omega (arith, c.from.ensures)) in
    let rest = length-drop c.self.inside.start c.self.inside.bytes in
    (grind (arith, short, rest), omega arith)

pub returns-clause-short : goal.returns-clause-short
returns-clause-short c =
    let short = decimal_is_short c.from.result (omega (arith, c.from.ensures)) in
    let rest = length-drop c.write_digits-self-inside.result c.write_digits-self-inside.new.buf in
    grind (arith, short, rest, length-drop c.self.inside.start c.self.inside.bytes)

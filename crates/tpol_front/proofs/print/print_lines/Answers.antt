use Rattle.std.proofs.Common.{◌++◌, arith}
use Rattle.tpol_front.proofs.Prefixes.{GrowsInPart-line}
use Rattle.tpol_front.proofs.print.print_lines.Goals as goal

pub returns-in-Err-clause-written : goal.returns-in-Err-clause-written
returns-in-Err-clause-written g c =
    GrowsInPart-line _ _ _ c.args.lines.now c.loop-index.index (c.parts.result.0.now ++ c.parts.result.1.now) (omega (arith, c.loop-index-test.true, c.len-index-end.ensures)) c.parts.ensures c.loop-index.invariant.written c.in-Err.ensures.written

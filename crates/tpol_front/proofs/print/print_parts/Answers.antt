use Rattle.tpol_front.proofs.Prefixes.{GrowsInPart-front, written-behind}
use Rattle.tpol_front.proofs.print.print_parts.Goals as goal

pub returns-in-Ok-clause-written : goal.returns-in-Ok-clause-written
returns-in-Ok-clause-written g c =
    written-behind _ _ _ _ c.args.head.now c.args.tail.now c.in-Ok.ensures.written c.write-in-Ok.ensures.written

pub returns-in-Err-clause-written : goal.returns-in-Err-clause-written
returns-in-Err-clause-written g c =
    GrowsInPart-front _ _ c.args.head.now c.args.tail.now c.in-Err.ensures.written

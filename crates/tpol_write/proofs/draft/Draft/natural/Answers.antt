use Rattle.std.proofs.Common.{arith}
use Rattle.tpol_write.proofs.Numbers.{natural_reads}
use Rattle.tpol_write.proofs.draft.Draft.natural.Goals as goal

pub returns-clause-reads : goal.returns-clause-reads
returns-clause-reads c = natural_reads c.args.number (omega (arith, c.ranges.number.fits))

use Rattle.tpol_write.proofs.Numbers.{integer_reads}
use Rattle.tpol_write.proofs.draft.Draft.integer.Goals as goal

pub returns-clause-reads : goal.returns-clause-reads
returns-clause-reads c = integer_reads c.args.number c.ranges.number

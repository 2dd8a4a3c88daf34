use Rattle.std.proofs.Common.{rules}
use Rattle.tpol_front.specs.Report.{most_read}
use Rattle.tpol_front.proofs.answers.input_of.Goals as goal

-- where nothing is read, that is not too large
pub returns-then-not-reads_source-clause-input : goal.returns-then-not-reads_source-clause-input
unfolding most_read
returns-then-not-reads_source-clause-input g c = search rules

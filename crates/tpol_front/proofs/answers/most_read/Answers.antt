use Rattle.std.proofs.Common.{refl}
use Rattle.tpol_front.specs.Report.{most_read}
use Rattle.tpol_front.proofs.answers.most_read.Goals as goal

pub returns : goal.returns
unfolding most_read
returns c = refl

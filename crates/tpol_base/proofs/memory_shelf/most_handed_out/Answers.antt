use Rattle.std.proofs.Common.{refl}
use Rattle.tpol_base.specs.Documents.{most_handed_out}
use Rattle.tpol_base.proofs.memory_shelf.most_handed_out.Goals as goal

pub returns : goal.returns
unfolding most_handed_out
returns c = refl

use Rattle.std.proofs.Common.{refl}
use Rattle.tpol_read.specs.Approvals.{by_index}
use Rattle.tpol_read.proofs.approvals.by_index.Goals as goal

pub returns : goal.returns
unfolding by_index
returns c = rw (c.in_ok-index.ensures, c.in_ok-note_unknown.ensures) refl

use Rattle.tpol_export.proofs.Causes.{nothing_follows_first}
use Rattle.tpol_export.proofs.laws.nothing_follows_first.Goals as goal

pub returns : goal.returns
returns c = nothing_follows_first

use Rattle.tpol_write.proofs.Stands.{stands}
use Rattle.tpol_write.proofs.laws.canonical_values_stand.Goals as goal

pub returns : goal.returns
returns c = stands

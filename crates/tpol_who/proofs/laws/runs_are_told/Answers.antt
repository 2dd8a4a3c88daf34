use Rattle.tpol_who.proofs.Told.{begins_are_told}
use Rattle.tpol_who.proofs.laws.runs_are_told.Goals as goal

pub returns : goal.returns
returns c = begins_are_told

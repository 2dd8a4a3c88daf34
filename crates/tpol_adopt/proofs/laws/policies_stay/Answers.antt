use Rattle.tpol_adopt.proofs.Conservative.{conservative}
use Rattle.tpol_adopt.proofs.laws.policies_stay.Goals as goal

pub returns : goal.returns
returns c = conservative

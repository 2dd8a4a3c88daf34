use Rattle.tpol_driver.proofs.Mirror.{try_mirrored}
use Rattle.tpol_driver.proofs.laws.mirrored.Goals as goal

pub returns : goal.returns
returns c = try_mirrored

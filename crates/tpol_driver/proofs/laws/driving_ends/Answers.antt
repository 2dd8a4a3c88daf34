use Rattle.tpol_driver.proofs.Ending.{over_after_all}
use Rattle.tpol_driver.proofs.laws.driving_ends.Goals as goal

pub returns : goal.returns
returns c = over_after_all

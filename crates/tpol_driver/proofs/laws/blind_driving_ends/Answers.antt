use Rattle.tpol_driver.proofs.BlindEnding.{blind_over_after_all}
use Rattle.tpol_driver.proofs.laws.blind_driving_ends.Goals as goal

pub returns : goal.returns
returns c = blind_over_after_all

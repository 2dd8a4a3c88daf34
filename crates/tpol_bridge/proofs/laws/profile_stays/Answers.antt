use Rattle.tpol_bridge.proofs.Kept.{keeps_policies}
use Rattle.tpol_bridge.proofs.laws.profile_stays.Goals as goal

pub returns : goal.returns
returns c = keeps_policies

use Rattle.tpol_laws.proofs.Staged.{step-staged}
use Rattle.tpol_laws.proofs.laws.scenes_are_staged.Goals as goal

pub returns : goal.returns
returns c = step-staged

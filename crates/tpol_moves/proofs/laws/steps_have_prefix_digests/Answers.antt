use Rattle.tpol_moves.proofs.StepLaws.{prefix_digests}
use Rattle.tpol_moves.proofs.laws.steps_have_prefix_digests.Goals as goal

pub returns : goal.returns
returns c = prefix_digests

use Rattle.tpol_moves.proofs.StepLaws.{last_digests}
use Rattle.tpol_moves.proofs.laws.last_steps_have_policy_digest.Goals as goal

pub returns : goal.returns
returns c = last_digests

use Rattle.tpol_adopt.proofs.Idempotent.{idempotent}
use Rattle.tpol_adopt.proofs.laws.spelling_lasts.Goals as goal

pub returns : goal.returns
returns c = idempotent

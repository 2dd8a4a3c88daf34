use Rattle.std.proofs.Common.{refl}
use Rattle.tpol_base.proofs.Digests.{same_digest}
use Rattle.tpol_entities.proofs.members.zero_digest.Goals as goal

pub returns : goal.returns
returns c = same_digest _ _ refl

use Rattle.std.proofs.Common.{[], refl}
use Rattle.tpol_moves.proofs.steps.push_steps.Goals as goal

-- nothing was sent before
pub returns : goal.returns
returns c = record { added = c.push_from.ensures [] c.zero_digest.ensures refl }

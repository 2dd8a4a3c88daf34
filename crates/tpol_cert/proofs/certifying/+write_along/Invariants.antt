use Rattle.std.proofs.Common.{length}
use Rattle.tpol_cert.proofs.certifying.+write_along.Given as goal

-- proposed from what the function passes where it calls itself
abbrev pub decreases-write_along : goal.decreases-write_along
decreases-write_along l = length l.moves.now

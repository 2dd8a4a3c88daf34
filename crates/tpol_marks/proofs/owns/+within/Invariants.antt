use Rattle.std.proofs.Common.{length}
use Rattle.tpol_marks.proofs.owns.+within.Given as goal

abbrev pub decreases-within : goal.decreases-within
decreases-within l = length l.steps.now

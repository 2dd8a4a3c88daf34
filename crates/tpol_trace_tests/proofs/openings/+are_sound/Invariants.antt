use Rattle.std.proofs.Common.{length}
use Rattle.tpol_trace_tests.proofs.openings.+are_sound.Given as goal

abbrev pub decreases-are_sound : goal.decreases-are_sound
decreases-are_sound l = length l.facts.now

use Rattle.std.proofs.Common.{length}
use Rattle.tpol_trace_tests.proofs.openings.+is_among.Given as goal

abbrev pub decreases-is_among : goal.decreases-is_among
decreases-is_among l = length l.digests.now

use Rattle.std.proofs.Common.{take}
use Rattle.tpol_digest.specs.Update.{joined}
use Rattle.tpol_hash.specs.Messages.{Holds}
use Rattle.tpol_trace_tests.proofs.openings.digest_of_values.Given as goal

abbrev pub invariant-loop-value : goal.invariant-loop-value
invariant-loop-value l = Holds l.hasher (joined (take l.value-index l.values))

use Rattle.std.proofs.Common.{◌≡◌, ◌++◌, drop, replicate, None}
use Rattle.tpm_session.proofs.table.Table.clear.Given as goal

abbrev pub invariant-loop-slot : goal.invariant-loop-slot
invariant-loop-slot g l = l.self ≡ replicate l.slot None ++ drop l.slot l.fn.self

use Rattle.std.proofs.Common.{◌≡◌, length}
use Rattle.tpol_trace.specs.Tables.{IsWithin}
use Rattle.tpol_trace.proofs.Steps.{IsJoined}
use Rattle.tpol_trace.proofs.ways.Ways.append.Given as goal

abbrev pub invariant-loop-k : goal.invariant-loop-k
invariant-loop-k l =
    (length l.self.first.items ≡ length l.initial.self.first.items)
    × (IsWithin l.others → IsJoined l.self l.initial.self l.others l.k)

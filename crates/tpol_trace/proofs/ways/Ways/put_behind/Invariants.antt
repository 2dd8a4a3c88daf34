use Rattle.std.proofs.Common.{◌≡◌, length}
use Rattle.tpol_trace.specs.Tables.{IsWithin}
use Rattle.tpol_trace.proofs.Steps.{IsPut}
use Rattle.tpol_trace.proofs.ways.Ways.put_behind.Given as goal

abbrev pub invariant-loop-k : goal.invariant-loop-k
invariant-loop-k l =
    (length l.self.first.items ≡ length l.initial.self.first.items)
    × (IsWithin l.initial.self → IsPut l.self l.initial.self l.facts l.act l.k)

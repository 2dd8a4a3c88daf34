use Rattle.std.proofs.Common.{◌≡◌, ◌≤◌, length}
use Rattle.std.specs.Io.KnownBytes.{Consumes}
use Rattle.tpol_front.proofs.input.read_input.Given as goal

-- what was read is the front of what the source held, at least one byte a turn
abbrev pub invariant-loop-turn : goal.invariant-loop-turn
invariant-loop-turn g l = record {
  piece : length l.piece ≡ 4096;
  consumed : Consumes (g.S.Source.left l.initial.source) (g.S.Source.left l.source) l.bytes;
  within : length l.bytes ≤ l.limit;
  turns : l._turn ≤ length l.bytes;
  faults : g.S.Source.faults l.source ≡ g.S.Source.faults l.initial.source;
}

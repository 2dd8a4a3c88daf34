use Rattle.std.proofs.Common.{◌≡◌, ◌≤◌, ◌-◌, length, take}
use Rattle.tpol_base.specs.Causes.{Grows}
use Rattle.tpol_base.proofs.std_sink.StdSinkSink.write.Given as goal

-- the bytes so far are written, and no fault has been counted
abbrev pub invariant-loop-written : goal.invariant-loop-written
invariant-loop-written g l = record {
  within : l.written ≤ length l.bytes;
  grown : Grows (g.W.Write.contents l.initial.self.writer) (g.W.Write.contents l.self.writer) (take l.written l.bytes);
  faults : l.self.faults ≡ l.initial.self.faults;
}

abbrev pub decreases-loop-written : goal.decreases-loop-written
decreases-loop-written g l = length l.bytes - l.written

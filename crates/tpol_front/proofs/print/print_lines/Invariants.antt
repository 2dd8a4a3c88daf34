use Rattle.std.proofs.Common.{◌≡◌, take}
use Rattle.tpol_base.specs.Causes.{Grows}
use Rattle.tpol_steps.specs.Answer.{text_of}
use Rattle.tpol_front.proofs.print.print_lines.Given as goal

-- the lines so far are written, and before the first one the sink is not called
abbrev pub invariant-loop-index : goal.invariant-loop-index
invariant-loop-index g l = record {
  written : Grows (g.K.Sink.contents l.initial.out) (g.K.Sink.contents l.out) (text_of (take l.index l.lines));
  faults : g.K.Sink.faults l.out ≡ g.K.Sink.faults l.initial.out;
  uncalled : l.index ≡ 0 → l.out ≡ l.initial.out;
}

use Rattle.std.proofs.Common.{◌≡◌, ◌≤◌, ◌++◌}
use Rattle.std.specs.Prelude.{slice_range}
use Rattle.tpol_lines.proofs.lines.Lines.append.Given as goal

-- the others so far stand behind the lines
abbrev pub invariant-loop-index : goal.invariant-loop-index
invariant-loop-index l = record {
  lines : l.self ≡ l.initial.self ++ slice_range l.others l.start l.index;
  started : l.start ≤ l.index;
}

use Rattle.std.proofs.Common.{◌≡◌, ◌++◌, map, take}
use Rattle.tpol_bridge.specs.Differences.{difference_line}
use Rattle.tpol_lines.specs.Lines.{line_of}
use Rattle.tpol_bridge.proofs.differences.push_differences.Given as goal

-- those so far are told
abbrev pub invariant-loop-one : goal.invariant-loop-one
invariant-loop-one l =
    l.lines ≡ l.initial.lines ++ map (λ one. line_of (difference_line one)) (take l.one-index l.found)

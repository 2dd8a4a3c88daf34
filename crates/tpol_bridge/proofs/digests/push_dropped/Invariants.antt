use Rattle.std.proofs.Common.{◌≡◌, ◌++◌, map, take}
use Rattle.tpol_bridge.specs.Lines.{dropped_line}
use Rattle.tpol_lines.specs.Lines.{line_of}
use Rattle.tpol_bridge.proofs.digests.push_dropped.Given as goal

-- the places so far are told
abbrev pub invariant-loop-place : goal.invariant-loop-place
invariant-loop-place l = l.lines ≡ l.initial.lines ++ map (λ place. line_of (dropped_line place)) (take l.place-index l.places)

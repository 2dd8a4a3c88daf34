use Rattle.std.proofs.Common.{◌≡◌, ◌++◌, take}
use Rattle.std.specs.List.{flat_map}
use Rattle.tpol_bridge.specs.Lines.{other_lines}
use Rattle.tpol_bridge.proofs.digests.push_others.Given as goal

-- those so far that are others are told
abbrev pub invariant-loop-own : goal.invariant-loop-own
invariant-loop-own l = l.lines ≡ l.initial.lines ++ flat_map (other_lines l.mark) (take l.own-index l.owns)

use Rattle.std.proofs.Common.{◌≡◌, ◌++◌, take}
use Rattle.std.specs.List.{flat_map}
use Rattle.serde_json.specs.View.{view}
use Rattle.tpol_bridge.specs.Lines.{mark_lines}
use Rattle.tpol_bridge.proofs.digests.push_marks.Given as goal

-- the marks so far are told
abbrev pub invariant-loop-mark : goal.invariant-loop-mark
invariant-loop-mark l = l.lines ≡ l.initial.lines ++ flat_map (mark_lines (view l.document)) (take l.mark-index l.marks)

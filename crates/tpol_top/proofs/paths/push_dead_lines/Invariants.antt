use Rattle.std.proofs.Common.{◌≡◌, ◌++◌, take}
use Rattle.tpol_digest.specs.Paths.{paths_of}
use Rattle.tpol_lines.specs.LintLine.{dead_lines}
use Rattle.tpol_top.proofs.paths.push_dead_lines.Given as goal

-- the lines of the dead paths so far are added
abbrev pub invariant-loop-one : goal.invariant-loop-one
invariant-loop-one l = l.lines ≡ l.initial.lines ++ dead_lines (paths_of l.closed l.approvals) (take l.one-index l.dead)

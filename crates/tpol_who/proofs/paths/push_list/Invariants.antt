use Rattle.std.proofs.Common.{◌≡◌, ◌+◌, ◌++◌, List, drop, map}
use Rattle.tpol_lines.specs.PathLine.{label}
use Rattle.tpol_name.specs.declared.sight.Sight.{Sight}
use Rattle.tpol_perform.specs.declared.new_run.NewRun.{NewRun}
use Rattle.tpol_tree.specs.declared.path.Path.{Path}
use Rattle.tpol_who.specs.Lines.{block_for, paths_told}
use Rattle.tpol_who.proofs.paths.push_list.Given as goal

-- the lines so far, with those of the paths to come, are all of them
abbrev pub invariant-loop-index : goal.invariant-loop-index
invariant-loop-index l = (sight : Sight) (run : NewRun) (paths : List Path) → l.blocks ≡ map (block_for sight run) paths → l.labels ≡ map (λ path. label path.steps) paths
    → l.lines ++ paths_told sight run (l.index + 1) (drop l.index paths) ≡ l.initial.lines ++ paths_told sight run 1 paths

use Rattle.std.proofs.Common.{◌≡◌, ◌+◌, List, drop, map}
use Rattle.tpol_choose.specs.Blocks.{first_block}
use Rattle.tpol_lines.specs.PathLine.{label}
use Rattle.tpol_name.specs.declared.sight.Sight.{Sight}
use Rattle.tpol_perform.specs.declared.new_run.NewRun.{NewRun}
use Rattle.tpol_perform.specs.Begin.{with_blocks}
use Rattle.tpol_perform.proofs.performance.Performance.print_block_list.Given as goal
use Rattle.tpol_tree.specs.declared.path.Path.{Path}

-- the lines so far, with those of the paths to come, are all of them
abbrev pub invariant-loop-index : goal.invariant-loop-index
invariant-loop-index l = record {
  told : (sight : Sight) (run : NewRun) (paths : List Path) → l.blocks ≡ map (λ path. first_block path sight run.grants run.goal run.locality) paths → l.labels ≡ map (λ path. label path.steps) paths
      → with_blocks sight run (l.index + 1) (drop l.index paths) l.self ≡ with_blocks sight run 1 paths l.initial.self;
  past : l.self.past ≡ l.initial.self.past;
  setup : l.self.setup ≡ l.initial.self.setup;
}

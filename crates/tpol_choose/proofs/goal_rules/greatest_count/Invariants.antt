use Rattle.std.proofs.Common.{◌≡◌, take}
use Rattle.tpm_nv.specs.Counters.{greatest_count}
use Rattle.tpol_choose.proofs.goal_rules.greatest_count.Given as goal

abbrev pub invariant-loop-entry : goal.invariant-loop-entry
invariant-loop-entry l = l.greatest ≡ greatest_count (take l.entry-index l.entry-items)

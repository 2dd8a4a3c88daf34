use Rattle.std.proofs.Common.{◌≡◌, map}
use Rattle.tpm_nv.specs.Counters.{greatest_count}
use Rattle.tpm_nv.proofs.table.NvTable.greatest_count.Given as goal

abbrev pub invariant-loop-entry : goal.invariant-loop-entry
invariant-loop-entry l = l.greatest ≡ greatest_count (map (λ entry. entry.now) l.yielded)

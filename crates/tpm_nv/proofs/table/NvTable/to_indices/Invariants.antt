use Rattle.std.proofs.Common.{◌≡◌, map}
use Rattle.tpm_nv.proofs.table.NvTable.to_indices.Given as goal

abbrev pub invariant-loop-entry : goal.invariant-loop-entry
invariant-loop-entry l = l.copies ≡ map (λ entry. entry.now) l.yielded

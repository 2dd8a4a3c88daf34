use Rattle.std.proofs.Common.{◌≡◌, ◌++◌, map}
use Rattle.std.specs.Vec.Iter.{into_iter_items}
use Rattle.tpm_nv.proofs.FillLemmas.{under_handle}
use Rattle.tpm_nv.proofs.table.NvTable.new.Given as goal

-- the first indices stand under their handles, in order, and the others are still to come
abbrev pub invariant-loop-entry : goal.invariant-loop-entry
invariant-loop-entry l =
    (l.table.entries ≡ map under_handle l.yielded) × (l.yielded ++ into_iter_items l.entry-iterator ≡ l.fn.indices)

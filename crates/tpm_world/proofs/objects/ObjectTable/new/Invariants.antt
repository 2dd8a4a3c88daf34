use Rattle.std.proofs.Common.{◌≡◌, ◌++◌, map}
use Rattle.std.specs.Vec.Iter.{into_iter_items}
use Rattle.tpm_world.proofs.ObjectLemmas.{under_handle}
use Rattle.tpm_world.proofs.objects.ObjectTable.new.Given as goal

-- the first objects stand under their handles, in order, and the others are still to come
abbrev pub invariant-loop-object : goal.invariant-loop-object
invariant-loop-object l =
    (l.table.entries ≡ map under_handle l.yielded) × (l.yielded ++ into_iter_items l.object-iterator ≡ l.fn.objects)

use Rattle.std.proofs.Common.{◌≡◌, map}
use Rattle.tpm_world.proofs.objects.ObjectTable.to_objects.Given as goal

abbrev pub invariant-loop-object : goal.invariant-loop-object
invariant-loop-object l = l.copies ≡ map (λ object. object.now) l.yielded

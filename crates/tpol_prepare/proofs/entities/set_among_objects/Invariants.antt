use Rattle.std.proofs.Common.{◌≡◌}
use Rattle.tpol_prepare.specs.Entities.{object_with_policy}
use Rattle.tpol_prepare.proofs.EachSet.{set_before}
use Rattle.tpol_prepare.proofs.entities.set_among_objects.Given as goal

abbrev pub invariant-loop-place : goal.invariant-loop-place
invariant-loop-place l = l.objects ≡ set_before (object_with_policy l.handle l.digest) l.place l.initial.objects

use Rattle.std.proofs.Common.{◌≡◌}
use Rattle.tpol_prepare.specs.Entities.{index_with_policy}
use Rattle.tpol_prepare.proofs.EachSet.{set_before}
use Rattle.tpol_prepare.proofs.entities.set_among_indices.Given as goal

abbrev pub invariant-loop-place : goal.invariant-loop-place
invariant-loop-place l = l.indices ≡ set_before (index_with_policy l.handle l.digest) l.place l.initial.indices

use Rattle.std.proofs.Common.{◌≡◌, take}
use Rattle.tpol_digest.specs.Paths.{paths_of}
use Rattle.tpol_perform.proofs.paths.all_paths.Given as goal

-- the paths so far are the first ones
abbrev pub invariant-loop-index : goal.invariant-loop-index
invariant-loop-index l = record { taken : l.paths ≡ take l.index (paths_of l.policy l.approvals) }

use Rattle.std.proofs.Common.{◌≡◌, take}
use Rattle.std.specs.List.{list_any}
use Rattle.std.specs.Prelude.{◌==◌}
use Rattle.tpol_scene.proofs.events.is_begun.Given as goal

-- whether one of the numbers so far is the run's
abbrev pub invariant-loop-begun : goal.invariant-loop-begun
invariant-loop-begun l = l.found ≡ list_any (λ begun. begun == l.run) (take l.begun-index l.runs)

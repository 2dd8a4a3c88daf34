use Rattle.std.proofs.Common.{◌≡◌, take}
use Rattle.tpol_runs.specs.Earned.{with_counts}
use Rattle.tpol_runs.proofs.path_behind.set_counts.Given as goal

abbrev pub invariant-loop-place : goal.invariant-loop-place
invariant-loop-place l = l.tickets ≡ with_counts l.initial.tickets (take l.place l.counts)

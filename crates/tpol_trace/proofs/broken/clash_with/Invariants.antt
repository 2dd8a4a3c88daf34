use Rattle.std.proofs.Common.{◌≡◌, drop}
use Rattle.tpol_trace.specs.Openings as spec
use Rattle.tpol_trace.proofs.broken.clash_with.Given as goal

abbrev pub invariant-loop-other : goal.invariant-loop-other
invariant-loop-other l = spec.clash_with l.string (drop l.other-index l.others) ≡ spec.clash_with l.string l.others

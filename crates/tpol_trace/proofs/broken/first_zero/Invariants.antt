use Rattle.std.proofs.Common.{◌≡◌, drop}
use Rattle.tpol_trace.specs.Openings as spec
use Rattle.tpol_trace.proofs.broken.first_zero.Given as goal

abbrev pub invariant-loop-string : goal.invariant-loop-string
invariant-loop-string l = spec.first_zero (drop l.string-index l.strings) ≡ spec.first_zero l.strings

use Rattle.std.proofs.Common.{◌≡◌, drop}
use Rattle.tpol_trace.specs.Openings as spec
use Rattle.tpol_trace.proofs.broken.first_clash.Given as goal

abbrev pub invariant-loop-i : goal.invariant-loop-i
invariant-loop-i l = spec.first_clash (drop l.i l.strings) ≡ spec.first_clash l.strings

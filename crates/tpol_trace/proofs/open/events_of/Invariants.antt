use Rattle.std.proofs.Common.{◌≡◌, take}
use Rattle.tpol_trace.specs.Openings.{events_of}
use Rattle.tpol_trace.proofs.open.events_of.Given as goal

abbrev pub invariant-loop-fact : goal.invariant-loop-fact
invariant-loop-fact l = l.events.items ≡ events_of (take l.fact-index l.facts)

use Rattle.std.proofs.Common.{◌≡◌, take}
use Rattle.std.specs.List.{flat_map}
use Rattle.tpol_prepare.specs.References.{event_references}
use Rattle.tpol_prepare.proofs.references.references_of.Given as goal

-- those of the events so far
abbrev pub invariant-loop-event : goal.invariant-loop-event
invariant-loop-event l = l.references ≡ flat_map event_references (take l.event-index l.script)

use Rattle.std.proofs.Common.{◌≡◌, ◌++◌, ◌∷◌, take, map, decimal}
use Rattle.std.specs.List.{flat_map}
use Rattle.tpol_lines.proofs.openings.push_events.Given as goal

abbrev pub invariant-loop-event : goal.invariant-loop-event
invariant-loop-event l =
    l.line.items ≡ l.initial.line.items ++ flat_map (λ piece. 44 ∷ piece) (map decimal (take l.event-index l.rest))

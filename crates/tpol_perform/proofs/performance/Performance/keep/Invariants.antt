use Rattle.std.proofs.Common.{◌≡◌, take}
use Rattle.tpol_perform.specs.Tickets.{with_kept}
use Rattle.tpol_perform.proofs.performance.Performance.keep.Given as goal

-- the tickets so far are kept
abbrev pub invariant-loop-ticket : goal.invariant-loop-ticket
invariant-loop-ticket l = l.self ≡ with_kept l.directory l.client (take l.ticket-index l.earned) l.initial.self

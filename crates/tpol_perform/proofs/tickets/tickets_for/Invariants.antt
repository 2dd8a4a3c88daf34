use Rattle.std.proofs.Common.{◌≡◌, take}
use Rattle.tpol_perform.specs.Tickets.{tickets_for}
use Rattle.tpol_perform.proofs.tickets.tickets_for.Given as goal

-- those that are usable so far
abbrev pub invariant-loop-entry : goal.invariant-loop-entry
invariant-loop-entry l = l.tickets ≡ tickets_for l.client l.sight (take l.entry-index l.kept)

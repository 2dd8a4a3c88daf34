use Rattle.std.proofs.Common.{◌≡◌, ◌≤◌}
use Rattle.tpm_session.specs.Slots.{count_below, is_free}
use Rattle.tpm_session.proofs.sessions.Sessions.free.Given as goal

abbrev pub invariant-loop-slot : goal.invariant-loop-slot
invariant-loop-slot l = (l.count ≡ count_below (is_free l.self l.taken) l.slot) × (l.count ≤ l.slot)

use Rattle.std.proofs.Common.{◌≡◌, None}
use Rattle.tpm_session.specs.Slots.{least_below, is_free}
use Rattle.tpm_session.proofs.sessions.Sessions.first_free.Given as goal

abbrev pub invariant-loop-lowest : goal.invariant-loop-lowest
invariant-loop-lowest l = least_below (is_free l.self l.taken) l.lowest ≡ None

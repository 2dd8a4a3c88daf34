use Rattle.std.proofs.Common.{◌≡◌, None}
use Rattle.tpm_session.specs.Slots.{bits_of, is_free, least_below}
use Rattle.tpm_engine.proofs.tables.Tables.free_slot.Given as goal

abbrev pub invariant-loop-lowest : goal.invariant-loop-lowest
invariant-loop-lowest l = least_below (is_free l.self.sessions (bits_of l.self.saved)) l.lowest ≡ None

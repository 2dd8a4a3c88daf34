use Rattle.std.proofs.Common.{sym, ◌∙◌}
use Rattle.tpm_session.specs.Slots.{bits_of, is_free, slot_count}
use Rattle.tpm_session.proofs.Least.{least-found, least-more, least-none}
use Rattle.tpm_engine.proofs.tables.Tables.free_slot.Goals as goal

-- src/session_commands/start_auth_session.rt
pub loop-lowest-init : goal.loop-lowest-init
loop-lowest-init c = least-none (is_free c.args.self.now.sessions (bits_of c.args.self.now.saved))

pub returns-then-is_free-clause-slot : goal.returns-then-is_free-clause-slot
returns-then-is_free-clause-slot c =
    sym (least-found (is_free c.args.self.now.sessions (bits_of c.args.self.now.saved)) c.loop-lowest.lowest slot_count c.loop-lowest.invariant
    (sym c.is_free.ensures ∙ c.if-is_free.true) c.loop-lowest-test.true)

pub loop-lowest-preserved : goal.loop-lowest-preserved
loop-lowest-preserved c =
    least-more (is_free c.args.self.now.sessions (bits_of c.args.self.now.saved)) c.loop-lowest.lowest c.loop-lowest.invariant
    (sym c.is_free.ensures ∙ c.if-is_free.false)

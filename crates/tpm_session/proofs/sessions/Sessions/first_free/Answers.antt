use Rattle.std.proofs.Common.{sym, ◌∙◌}
use Rattle.tpm_session.specs.Slots.{is_free, slot_count}
use Rattle.tpm_session.proofs.Least.{least-none, least-more, least-found}
use Rattle.tpm_session.proofs.sessions.Sessions.first_free.Goals as goal

pub loop-lowest-init : goal.loop-lowest-init
loop-lowest-init c = least-none (is_free c.args.self.now c.args.taken)

pub returns-then-is_free-clause-least : goal.returns-then-is_free-clause-least
returns-then-is_free-clause-least c =
    sym (least-found (is_free c.args.self.now c.args.taken) c.loop-lowest.lowest slot_count c.loop-lowest.invariant
    (sym c.is_free.ensures ∙ c.if-is_free.true) c.loop-lowest-test.true)

pub loop-lowest-preserved : goal.loop-lowest-preserved
loop-lowest-preserved c =
    least-more (is_free c.args.self.now c.args.taken) c.loop-lowest.lowest c.loop-lowest.invariant
    (sym c.is_free.ensures ∙ c.if-is_free.false)

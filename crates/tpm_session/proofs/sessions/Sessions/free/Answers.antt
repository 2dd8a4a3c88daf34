use Rattle.std.proofs.Common.{ap, sym, ◌∙◌, ◌+◌, arith}
use Rattle.tpm_session.specs.Slots.{is_free}
use Rattle.tpm_session.proofs.Least.{count-none, count-passed, count-failed}
use Rattle.tpm_session.proofs.sessions.Sessions.free.Goals as goal
use Rattle.tpm_session.proofs.sessions.Sessions.free.Goals.{then-is_free, else-is_free}

pub loop-slot-init : goal.loop-slot-init
loop-slot-init c = (sym (count-none (is_free c.args.self.now c.args.taken)), omega arith)

pub loop-slot-preserved : goal.loop-slot-preserved
loop-slot-preserved c =
    let test = is_free c.args.self.now c.args.taken in
    elim c.if-is_free.branch [
      | then-is_free w ↦
          (w.count-is ∙ (ap (λ n. n + 1) c.loop-slot.invariant.0 ∙ sym (count-passed test c.loop-slot.slot (sym c.is_free.ensures ∙ w.if-is_free.true))), omega (arith, w.count-is, c.loop-slot.invariant.1))
      | else-is_free w ↦
          (w.count-is ∙ (c.loop-slot.invariant.0 ∙ sym (count-failed test c.loop-slot.slot (sym c.is_free.ensures ∙ w.if-is_free.false))), omega (arith, w.count-is, c.loop-slot.invariant.1))
    ]

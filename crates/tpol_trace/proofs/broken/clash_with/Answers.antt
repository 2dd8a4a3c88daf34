use Rattle.std.proofs.Common.{sym, ◌∙◌}
use Rattle.tpol_trace.proofs.Search.{with_found, with_passed}
use Rattle.tpol_trace.proofs.broken.clash_with.Goals as goal

pub returns-then-is_clash : goal.returns-then-is_clash
returns-then-is_clash c =
    with_found c.args.others.now c.loop-other.other-index c.other-item.result c.loop-other-test.true c.other-item.is c.args.string.now c.loop-other.invariant (sym c.is_clash.ensures ∙ c.if-is_clash.true)

pub loop-other-preserved : goal.loop-other-preserved
loop-other-preserved c =
    with_passed c.args.others.now c.loop-other.other-index c.other-item.result c.loop-other-test.true c.other-item.is c.args.string.now c.loop-other.invariant (sym c.is_clash.ensures ∙ c.if-is_clash.false)

use Rattle.std.proofs.Common.{sym, ◌∙◌}
use Rattle.tpol_trace.proofs.Search.{zero_there, zero_passed}
use Rattle.tpol_trace.proofs.broken.first_zero.Goals as goal

pub returns-then-has_zero_digest : goal.returns-then-has_zero_digest
returns-then-has_zero_digest c =
    zero_there c.args.strings.now c.loop-string.string-index c.string-item.result c.loop-string-test.true c.string-item.is c.loop-string.invariant (sym c.has_zero_digest.ensures ∙ c.if-has_zero_digest.true)

pub loop-string-preserved : goal.loop-string-preserved
loop-string-preserved c =
    zero_passed c.args.strings.now c.loop-string.string-index c.string-item.result c.loop-string-test.true c.string-item.is c.loop-string.invariant (sym c.has_zero_digest.ensures ∙ c.if-has_zero_digest.false)

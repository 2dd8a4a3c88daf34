use Rattle.std.proofs.Common.{◌≡◌, ◌*◌, ◌≤◌, ap, sym, arith}
use Rattle.tpol_digest.specs.Extent.{document_extent, extent_at}
use Rattle.tpol_choose.specs.declared.searching.Search.TheVariants.{Passed}
use Rattle.tpol_choose.specs.Ahead.{ways_ahead}
use Rattle.tpol_choose.specs.Lent.{client_of_lent}
use Rattle.tpol_choose.proofs.SearchLaws.{counted_both, passed_none, passed_some}
use Rattle.tpol_choose.proofs.searching.pass_over.Goals as goal

pub returns-then-ways-eq0 : goal.returns-then-ways-eq0
returns-then-ways-eq0 c =
    let documents = c.args.walk.now.approvals.now in
    let levels = c.args.walk.now.levels in
    let ways = (extent_at (document_extent documents levels) documents c.args.elements.now).paths * ways_ahead documents c.args.ahead.now in
    let counted = counted_both (client_of_lent c.args.walk.now.client.now) documents c.count_ways_with_memo-first.result c.count_ahead-behind.result levels c.args.elements.now c.args.ahead.now c.count_ways_with_memo-first.ensures.ways c.count_ahead-behind.ensures in
    let none : ways ≡ 0 = omega (arith, counted, c.if-ways-eq0.true) in
    ap Passed (sym (passed_none c.args.passed ways none))

pub returns : goal.returns
returns c =
    let documents = c.args.walk.now.approvals.now in
    let levels = c.args.walk.now.levels in
    let ways = (extent_at (document_extent documents levels) documents c.args.elements.now).paths * ways_ahead documents c.args.ahead.now in
    let counted = counted_both (client_of_lent c.args.walk.now.client.now) documents c.count_ways_with_memo-first.result c.count_ahead-behind.result levels c.args.elements.now c.args.ahead.now c.count_ways_with_memo-first.ensures.ways c.count_ahead-behind.ensures in
    let some : 1 ≤ ways = omega (arith, counted, c.if-ways-eq0.false) in
    let more = passed_some c.args.passed ways some in
    ap Passed (omega (arith, counted, more))

use Rattle.std.proofs.Common.{arith}
use Rattle.tpol_digest.specs.Extent.{document_extent, extent_at}
use Rattle.tpol_digest.proofs.Extents.{min_mul}
use Rattle.tpol_choose.specs.Ahead.{ways_ahead}
use Rattle.tpol_choose.proofs.Counts.{counted}
use Rattle.tpol_choose.proofs.ahead.+count_ahead.Goals as goal

pub returns-in-After : goal.returns-in-After
returns-in-After t c =
    let documents = c.args.approvals.now in
    let levels = c.in-After.levels in
    let rest = c.in-After.rest.now in
    let ahead = c.in-After.ahead.now in
    let both = min_mul (extent_at (document_extent documents levels) documents rest).paths (ways_ahead documents ahead) c.count_ways_with_memo-first.result c.count_ahead-others.result (counted documents levels rest c.count_ways_with_memo-first.result c.count_ways_with_memo-first.ensures.ways) c.count_ahead-others.ensures in
    rw c.in-After.is (omega (arith, both, c.saturating_mul.ensures, c.min.ensures))

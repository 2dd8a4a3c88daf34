use Rattle.tpol_digest.proofs.Positions.{counted_ways}
use Rattle.tpol_digest.proofs.limits.count_ways_with_memo.Goals as goal

pub returns : goal.returns
returns c = record {
  ways = λ digest. counted_ways c.args.approvals.now c.args.levels c.extent.result c.args.elements.now digest c.extent.ensures;
}

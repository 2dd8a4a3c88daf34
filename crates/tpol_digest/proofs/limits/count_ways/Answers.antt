use Rattle.tpol_digest.proofs.Positions.{counted_ways}
use Rattle.tpol_digest.proofs.limits.count_ways.Goals as goal

pub returns : goal.returns
returns c = record {
  ways = λ before. counted_ways c.args.approvals.now c.args.levels c.extent_of_elements.result c.args.elements.now before c.extent_of_elements.ensures;
}

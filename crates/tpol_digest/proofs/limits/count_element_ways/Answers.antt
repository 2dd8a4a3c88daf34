use Rattle.tpol_digest.proofs.Positions.{counted_element_ways}
use Rattle.tpol_digest.proofs.limits.count_element_ways.Goals as goal

pub returns : goal.returns
returns c = record {
  ways = λ before. counted_element_ways c.args.approvals.now c.args.levels c.extent_of_element.result c.args.element.now before c.extent_of_element.ensures;
}

use Rattle.std.proofs.Common.{arith}
use Rattle.tpol_driver.proofs.Numbers.{few_before}
use Rattle.tpol_driver.proofs.asserting.Asserting.after.Goals as goal

pub goes_on-requires-clause-few : goal.goes_on-requires-clause-few
goes_on-requires-clause-few c =
    omega (arith, c.self.invariant.2, few_before c.self.inside.ticket c.said-heard.result c.said-heard.ensures.once)

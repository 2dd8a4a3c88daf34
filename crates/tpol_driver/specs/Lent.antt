-- What the code lends.
use Rattle.tpol_driver.specs.declared.path_plan.PathPlan.{PathPlan}
use Rattle.tpol_driver.specs.declared.plan.Plan.{Plan}

-- the plan of one path
abbrev pub plan_of : PathPlan → Plan
plan_of lent = record {
  path = lent.path.now;
  goal = lent.goal.now;
  grants = lent.grants.now;
  directory = lent.directory.now;
  nonce_seed = lent.nonce_seed.now;
  tickets = lent.tickets.now;
}

use Rattle.tpol_driver.specs.Blind.{blind_hears}
use Rattle.tpol_runs.specs.Courses.{driven_on}
use Rattle.tpol_runs.specs.State.{blind_driving_of}
use Rattle.tpol_runs.proofs.driver_state.DriverState.take.Goals as goal

pub returns-in-Ok-clause-behind : goal.returns-in-Ok-clause-behind
returns-in-Ok-clause-behind c =
    rw c.in-Sighted.is (c.sighted_behind.ensures (driven_on c.in-Sighted.driver c.args.reset_count c.args.reply.now) c.in-Ok.ensures.behind)

pub returns-in-Ok-blind_take-clause-behind : goal.returns-in-Ok-blind_take-clause-behind
returns-in-Ok-blind_take-clause-behind c =
    let driving = blind_driving_of c.in-Blind.state in
    rw c.in-Blind.is
    (c.blind_behind.ensures driving.plan (blind_hears driving.plan driving.standing c.args.reply.now) c.in-Ok-blind_take.ensures.next)

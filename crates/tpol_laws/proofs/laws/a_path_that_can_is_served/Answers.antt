use Rattle.tpol_laws.proofs.Owing.{never-sooner}
use Rattle.tpol_laws.proofs.Served.{path-served}
use Rattle.tpol_laws.proofs.laws.a_path_that_can_is_served.Goals as goal

pub returns : goal.returns
returns c = record { served = path-served; never_sooner = never-sooner }

use Rattle.tpol_laws.proofs.Heard.{success-goes-on, success-starts}
use Rattle.tpol_laws.proofs.laws.a_run_goes_on.Goals as goal

pub returns : goal.returns
returns c = record { starts = success-starts; goes_on = success-goes-on }

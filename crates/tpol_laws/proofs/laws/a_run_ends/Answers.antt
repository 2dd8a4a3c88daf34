use Rattle.tpol_laws.proofs.Ends.{run-ends}
use Rattle.tpol_laws.proofs.laws.a_run_ends.Goals as goal

pub returns : goal.returns
returns c = run-ends

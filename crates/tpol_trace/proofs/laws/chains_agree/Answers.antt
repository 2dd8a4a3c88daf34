use Rattle.tpol_trace.proofs.Rows.{chains_with_one_digest}
use Rattle.tpol_trace.proofs.laws.chains_agree.Goals as goal

pub returns : goal.returns
returns c = chains_with_one_digest

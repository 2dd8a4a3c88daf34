use Rattle.tpol_trace.proofs.Opened as opened
use Rattle.tpol_trace.proofs.laws.facts_open_without_approvals.Goals as goal

pub returns : goal.returns
returns c = opened.facts_open_without_approvals

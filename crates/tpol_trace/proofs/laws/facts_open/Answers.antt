use Rattle.tpol_trace.proofs.Meaning.{opening_means}
use Rattle.tpol_trace.proofs.Opened as opened
use Rattle.tpol_trace.proofs.laws.facts_open.Goals as goal

pub returns-clause-opens : goal.returns-clause-opens
returns-clause-opens c = opened.facts_open

pub returns-clause-means : goal.returns-clause-means
returns-clause-means c = opening_means

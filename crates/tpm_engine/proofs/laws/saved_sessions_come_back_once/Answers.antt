use Rattle.tpm_engine.proofs.Lookups.{apart-view}
use Rattle.tpm_engine.proofs.SavedOnce.{came-back, saved-between}
use Rattle.tpm_engine.proofs.laws.saved_sessions_come_back_once.Goals as goal

pub returns-clause-apart : goal.returns-clause-apart
returns-clause-apart c = apart-view

pub returns-clause-once : goal.returns-clause-once
returns-clause-once c = saved-between

pub returns-clause-same : goal.returns-clause-same
returns-clause-same c = λ setup past middle save load session. came-back setup session past middle save load

use Rattle.tpm_engine.proofs.Journals.{failed-view}
use Rattle.tpm_engine.proofs.laws.failures_change_nothing.Goals as goal

pub returns : goal.returns
returns c = record { same_view = failed-view }

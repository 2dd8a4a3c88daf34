use Rattle.std.proofs.Common.{[]}
use Rattle.tpm_engine.specs.Legal.{IsLegal}
use Rattle.tpm_engine.proofs.Journals.{calls-in-order, calls-legal}
use Rattle.tpm_engine.proofs.laws.calls_make_the_journal.Goals as goal

pub returns-clause-legal : goal.returns-clause-legal
unfolding IsLegal
returns-clause-legal c = λ setup calls. calls-legal setup calls [] tt

pub returns-clause-in_order : goal.returns-clause-in_order
returns-clause-in_order c = λ setup calls. calls-in-order setup calls []

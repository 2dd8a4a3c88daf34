use Rattle.tpm_engine.specs.Views.{view_of}
use Rattle.tpm_engine.proofs.TicketLaws.{accepted, same, told}
use Rattle.tpm_engine.proofs.laws.tickets_are_accepted.Goals as goal

pub returns-clause-told : goal.returns-clause-told
returns-clause-told c = λ setup past. told (view_of setup past)

pub returns-clause-same : goal.returns-clause-same
returns-clause-same c = λ setup past. same (view_of setup past)

pub returns-clause-accepted : goal.returns-clause-accepted
returns-clause-accepted c = accepted

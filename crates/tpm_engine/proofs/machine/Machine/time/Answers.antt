use Rattle.std.proofs.Common.{ap, ◌∙◌}
use Rattle.tpm_engine.specs.Views.{time_of}
use Rattle.tpm_engine.proofs.Machines.{machine-time}
use Rattle.tpm_engine.proofs.machine.Machine.time.Goals as goal

pub returns-clause-time : goal.returns-clause-time
returns-clause-time c =
    c.time.ensures.time
    ∙ (machine-time c.self.inside.setup c.self.inside.journal.events c.self.inside.tables c.self.invariant
    ∙ ap (λ m. time_of m.setup m.events) c.self.view_is)

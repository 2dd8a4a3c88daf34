use Rattle.tpm_engine.proofs.Machines.{machine-reset}
use Rattle.tpm_engine.proofs.machine.Machine.reset.Goals as goal

pub invariant_of-self : goal.invariant_of-self
invariant_of-self c =
    machine-reset c.self.inside.setup c.self.inside.journal.events c.self.inside.tables c.self.invariant c.push_change.new.self.events c.reset.new.self
    c.reset.ensures.tables c.push_change.ensures.events

use Rattle.tpm_engine.proofs.Machines.{machine-shifted}
use Rattle.tpm_engine.proofs.machine.Machine.set_presence.Goals as goal

pub invariant_of-self : goal.invariant_of-self
invariant_of-self c =
    machine-shifted c.self.inside.setup c.self.inside.journal.events c.self.inside.tables c.self.invariant c.args.on c.push_change.new.self.events c.set_presence.new.self
    c.set_presence.ensures.tables c.push_change.ensures.events

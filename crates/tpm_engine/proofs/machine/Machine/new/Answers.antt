use Rattle.tpm_engine.proofs.Machines.{machine-new}
use Rattle.tpm_engine.proofs.machine.Machine.new.Goals as goal

-- src/machine.rt
pub invariant_of-result : goal.invariant_of-result
invariant_of-result c =
    machine-new c.args.setup c.new-2.result.events c.in_ok-tables.tables c.new-2.ensures.events c.in_ok-tables.ensures.tables

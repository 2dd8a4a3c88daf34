use Rattle.tpm_engine.proofs.Machines.{apart-start}
use Rattle.tpm_engine.proofs.tables.Tables.new.Goals as goal

-- src/tables.rt
pub invariant_of-result : goal.invariant_of-result
invariant_of-result c = apart-start c.args.setup.now c.in-Ok.sessions c.in-Ok.saved c.in-Ok.ensures.sessions c.in-Ok.ensures.saved

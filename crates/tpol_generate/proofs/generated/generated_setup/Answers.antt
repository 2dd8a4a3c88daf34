use Rattle.std.proofs.Common.{subst, sym}
use Rattle.tpol_name.specs.Setups.{IsSetup}
use Rattle.tpol_generate.proofs.GeneratedSetups.{generated_is_setup}
use Rattle.tpol_generate.proofs.generated.generated_setup.Goals as goal

pub returns-clause-condition : goal.returns-clause-condition
returns-clause-condition c =
    subst IsSetup (sym c.in_ok-setup.ensures) (generated_is_setup c.args.order c.args.digest.now)

use Rattle.std.proofs.Common.{ap, subst, sym, ◌∙◌}
use Rattle.tpol_wire.specs.declared.command.Command.{Command}
use Rattle.tpol_wire.specs.Commands.{FitsCommand}
use Rattle.tpm_engine.specs.PolicyCommands.{policy_rule}
use Rattle.tpm_engine.proofs.Fitting.{authorize_nv-index, nv-index, pcr-mask}
use Rattle.tpm_engine.proofs.OwnRules.{authorize_nv-rest}
use Rattle.tpm_engine.proofs.policy_commands.carry_out.Goals as goal

-- src/policy_commands.rt
pub carry_out-requires-in-PolicyPcr-clause-mask : goal.carry_out-requires-in-PolicyPcr-clause-mask
carry_out-requires-in-PolicyPcr-clause-mask c = pcr-mask c.in-PolicyPcr.session c.in-PolicyPcr.given c.in-PolicyPcr.mask (subst FitsCommand c.in-PolicyPcr.is c.requires.fits)

-- src/policy_commands.rt
pub carry_out-requires-in-PolicyNv-clause-index : goal.carry_out-requires-in-PolicyNv-clause-index
carry_out-requires-in-PolicyNv-clause-index c =
    let it = c.in-PolicyNv in
    nv-index it.authority it.index it.session it.auth it.operand it.offset it.operation (subst FitsCommand it.is c.requires.fits)

-- src/policy_commands.rt
pub carry_out-requires-in-PolicyAuthorizeNv-clause-index : goal.carry_out-requires-in-PolicyAuthorizeNv-clause-index
carry_out-requires-in-PolicyAuthorizeNv-clause-index c =
    let it = c.in-PolicyAuthorizeNv in
    authorize_nv-index it.authority it.index it.session it.auth (subst FitsCommand it.is c.requires.fits)

-- src/policy_commands.rt
pub carry_out-requires-in-PolicyAuthorizeNv-clause-rule : goal.carry_out-requires-in-PolicyAuthorizeNv-clause-rule
carry_out-requires-in-PolicyAuthorizeNv-clause-rule c =
    let it = c.in-PolicyAuthorizeNv in
    authorize_nv-rest c.args.world.now c.args.session.now.state it.authority it.index
    (sym (ap (λ (command : Command). policy_rule c.args.world.now c.args.session.now.state command) it.is) ∙ c.requires.rule)

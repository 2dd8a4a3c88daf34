use Rattle.std.proofs.Common.{List, ℕ, subst, sym}
use Rattle.tpol_wire.specs.declared.command.Command.{Command}
use Rattle.tpm_rules.specs.Rule.{Obeys}
use Rattle.tpm_engine.specs.PolicyCommands.{policy_rule, ticket_rule}
use Rattle.tpm_engine.proofs.policy_commands.rule.Goals as goal

-- src/policy_commands.rt
pub returns-in-PolicyTicket : goal.returns-in-PolicyTicket
returns-in-PolicyTicket c =
    let it = c.in-PolicyTicket in
    let world = c.args.world.now in
    let state = c.args.session.now.state in
    record {
      rule =
          subst (λ (command : Command). Obeys c.rule-in-PolicyTicket.result (policy_rule world state command)) (sym it.is)
          (subst (λ (bytes : List ℕ). Obeys c.rule-in-PolicyTicket.result (ticket_rule world state it.timeout it.cp_hash bytes it.key it.ticket))
          c.as_slice-in-PolicyTicket.ensures c.rule-in-PolicyTicket.ensures.rule);
    }

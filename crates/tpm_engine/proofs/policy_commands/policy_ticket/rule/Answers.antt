use Rattle.std.proofs.Common.{ℕ, Bool, Option, ap, subst, ◌∙◌}
use Rattle.tpm_rules.specs.PolicyTicket.{policy_ticket_rule}
use Rattle.tpm_rules.specs.Rule.{Obeys}
use Rattle.tpm_engine.proofs.Showing.{ticket-rule}
use Rattle.tpm_engine.proofs.policy_commands.policy_ticket.rule.Goals as goal

-- src/policy_commands/policy_ticket.rt
pub returns : goal.returns
returns c =
    let given = c.args.given.now in
    let state = c.args.session.now.state in
    record {
      rule = subst (λ (rule : Option ℕ). Obeys c.policy_ticket_rule.result rule)
          (ap (λ (right : Bool). policy_ticket_rule state c.time.result given.timeout given.cp_hash right) c.is_auth_ticket-right.ensures
          ∙ ticket-rule c.args.world.now state c.time.result c.reset_count.result c.proof.result c.as_slice.result.now given.timeout given.cp_hash c.args.policy_ref.now given.key given.ticket.now
          c.time.ensures.time c.proof.ensures.proof c.reset_count.ensures.count c.as_slice.ensures)
          (c.policy_ticket_rule.ensures.rule state c.standing.ensures.value);
    }

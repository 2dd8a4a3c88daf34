use Rattle.std.proofs.Common.{◌≡◌, ◌∙◌, ℕ, Bool, List, Option, ap, sym}
use Rattle.tpol_tree.specs.declared.closed.Assertion.{Assertion}
use Rattle.tpol_tree.specs.declared.path.Move.TheVariants.{Assert}
use Rattle.tpm_bindings.specs.Merged.{fact_of}
use Rattle.std.specs.Prelude.{Some}
use Rattle.tpm_policy.specs.Asserted.{asserted, with_one_more}
use Rattle.tpm_policy.specs.Judgments.{is_auth_ticket}
use Rattle.tpm_rules.specs.PolicyTicket.{policy_ticket_fact, policy_ticket_rule}
use Rattle.tpm_policy.proofs.policy_ticket.assert_ticket.Goals as goal

-- src/policy_ticket.rt
pub returns-in_err-policy_ticket_rule-clause-session : goal.returns-in_err-policy_ticket_rule-clause-session
returns-in_err-policy_ticket_rule-clause-session c =
    let a = c.args in
    let state = a.session.now.state in
    let right : c.is_auth_ticket-right.result ≡ is_auth_ticket a.proof.now a.reset_count a.deadline a.cp_hash a.policy_ref a.key a.tag a.hierarchy a.ticket.now =
    c.is_auth_ticket-right.ensures
    ∙ ap (λ (bytes : List ℕ). is_auth_ticket a.proof.now a.reset_count a.deadline a.cp_hash bytes a.key a.tag a.hierarchy a.ticket.now) c.as_slice.ensures in
    sym (ap (λ (r : Option ℕ). asserted r a.session.now (policy_ticket_fact a.event a.tag a.deadline a.key a.policy_ref a.cp_hash) 0)
    (ap (λ (b : Bool). policy_ticket_rule state a.time a.deadline a.cp_hash b) (sym right) ∙ c.in_err-policy_ticket_rule.ensures.rule state c.standing.ensures.value))

-- src/policy_ticket.rt
pub returns-clause-rule : goal.returns-clause-rule
returns-clause-rule c =
    let a = c.args in
    let state = a.session.now.state in
    let right : c.is_auth_ticket-right.result ≡ is_auth_ticket a.proof.now a.reset_count a.deadline a.cp_hash a.policy_ref a.key a.tag a.hierarchy a.ticket.now =
    c.is_auth_ticket-right.ensures
    ∙ ap (λ (bytes : List ℕ). is_auth_ticket a.proof.now a.reset_count a.deadline a.cp_hash bytes a.key a.tag a.hierarchy a.ticket.now) c.as_slice.ensures in
    ap (λ (b : Bool). policy_ticket_rule state a.time a.deadline a.cp_hash b) (sym right) ∙ c.in_ok-policy_ticket_rule.ensures.rule state c.standing.ensures.value

-- src/policy_ticket.rt
pub returns-clause-session : goal.returns-clause-session
returns-clause-session c =
    let a = c.args in
    c.add_unbound.ensures
    ∙ (ap (λ (assertion : Assertion). with_one_more a.session.now (fact_of a.event (Assert assertion) a.cp_hash (Some a.deadline)) 0) c.assertion_of_ticket.ensures
    ∙ sym (ap (λ (r : Option ℕ). asserted r a.session.now (policy_ticket_fact a.event a.tag a.deadline a.key a.policy_ref a.cp_hash) 0) (returns-clause-rule c)))

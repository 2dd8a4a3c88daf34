use Rattle.std.proofs.Common.{◌≡◌, ◌∙◌, ℕ, Bool, List, Option, None, ap, refl, sym}
use Rattle.tpol_base.specs.declared.digest.Digest32.{Digest32}
use Rattle.tpol_base.specs.Digest.{zero_digest}
use Rattle.tpol_base.proofs.Digests as digests
use Rattle.tpol_tree.specs.declared.path.Move.TheVariants.{Approve}
use Rattle.tpm_bindings.specs.Merged.{fact_of}
use Rattle.tpm_policy.proofs.Agreeing.{first_of, holds_of}
use Rattle.tpm_policy.proofs.Meeting.{one_digest}
use Rattle.tpm_policy.specs.Asserted.{asserted, with_one_more}
use Rattle.tpm_policy.specs.Judgments.{is_approval_ticket}
use Rattle.tpm_rules.specs.PolicyAuthorize.{policy_authorize_fact, policy_authorize_rule}
use Rattle.tpm_rules.specs.Session.{policy_digest_of}
use Rattle.tpm_policy.proofs.policy_authorize.assert_authorize.Goals as goal

-- src/policy_authorize.rt
pub add_unbound-requires-clause-meets : goal.add_unbound-requires-clause-meets
add_unbound-requires-clause-meets c =
    let state = c.args.session.now.state in
    one_digest (policy_digest_of state) c.args.approved (holds_of _ _ (first_of _ _ (c.in_ok-policy_authorize_rule.ensures.rule state c.standing.ensures.value)))

-- src/policy_authorize.rt
pub returns-clause-session : goal.returns-clause-session
returns-clause-session c =
    let state = c.args.session.now.state in
    let right : c.is_approval_ticket-right.result ≡ is_approval_ticket c.args.proof.now c.args.approved c.args.policy_ref c.args.key c.args.ticket.now =
    c.is_approval_ticket-right.ensures
    ∙ ap (λ (bytes : List ℕ). is_approval_ticket c.args.proof.now c.args.approved bytes c.args.key c.args.ticket.now) c.as_slice.ensures in
    let rule : policy_authorize_rule state c.args.approved (is_approval_ticket c.args.proof.now c.args.approved c.args.policy_ref c.args.key c.args.ticket.now) ≡ None =
    ap (λ (b : Bool). policy_authorize_rule state c.args.approved b) (sym right) ∙ c.in_ok-policy_authorize_rule.ensures.rule state c.standing.ensures.value in
    c.add_unbound.ensures
    ∙ (ap (λ (zero : Digest32). with_one_more c.args.session.now (fact_of c.args.event (Approve c.args.key c.args.policy_ref c.args.approved zero) None None) 0) (digests.same_digest _ zero_digest refl)
    ∙ sym (ap (λ (r : Option ℕ). asserted r c.args.session.now (policy_authorize_fact c.args.event c.args.key c.args.policy_ref c.args.approved) 0) rule))

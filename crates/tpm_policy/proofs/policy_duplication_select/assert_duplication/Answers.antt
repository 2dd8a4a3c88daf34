use Rattle.tpm_policy.proofs.Agreeing.{agree-duplication}
use Rattle.tpm_policy.proofs.policy_duplication_select.assert_duplication.Goals as goal

-- src/policy_duplication_select.rt
pub add-requires-clause-agrees : goal.add-requires-clause-agrees
add-requires-clause-agrees c =
    let state = c.args.session.now.state in
    rw (c.fact_of.ensures) (agree-duplication state c.args.object c.args.parent c.args.include (c.in_ok-policy_duplication_select_rule.ensures.rule state c.standing.ensures.value))

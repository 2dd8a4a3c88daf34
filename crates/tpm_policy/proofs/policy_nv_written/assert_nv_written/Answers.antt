use Rattle.tpm_policy.proofs.Agreeing.{agree-written}
use Rattle.tpm_policy.proofs.policy_nv_written.assert_nv_written.Goals as goal

-- src/policy_nv_written.rt
pub add-requires-clause-agrees : goal.add-requires-clause-agrees
add-requires-clause-agrees c =
    let state = c.args.session.now.state in
    rw (c.fact_of.ensures) (agree-written state c.args.written (c.in_ok-policy_nv_written_rule.ensures.rule state c.standing.ensures.value))

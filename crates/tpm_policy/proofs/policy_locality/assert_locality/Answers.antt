use Rattle.tpm_policy.proofs.Agreeing.{agree-locality}
use Rattle.tpm_policy.proofs.policy_locality.assert_locality.Goals as goal

-- src/policy_locality.rt
pub add-requires-clause-agrees : goal.add-requires-clause-agrees
add-requires-clause-agrees c =
    let state = c.args.session.now.state in
    rw (c.fact_of.ensures) (agree-locality state c.args.localities (c.in_ok-policy_locality_rule.ensures.rule state c.standing.ensures.value))

use Rattle.tpm_policy.proofs.Agreeing.{agree-name_hash}
use Rattle.tpm_policy.proofs.policy_name_hash.assert_name_hash.Goals as goal

-- src/policy_name_hash.rt
pub add-requires-clause-agrees : goal.add-requires-clause-agrees
add-requires-clause-agrees c =
    let state = c.args.session.now.state in
    rw (c.fact_of.ensures) (agree-name_hash state c.args.digest (c.in_ok-policy_name_hash_rule.ensures.rule state c.standing.ensures.value))

use Rattle.tpm_policy.proofs.Agreeing.{agree-cp_hash}
use Rattle.tpm_policy.proofs.policy_cp_hash.assert_cp_hash.Goals as goal

-- src/policy_cp_hash.rt
pub add-requires-clause-agrees : goal.add-requires-clause-agrees
add-requires-clause-agrees c =
    let state = c.args.session.now.state in
    rw (c.fact_of.ensures) (agree-cp_hash state c.args.digest (c.in_ok-policy_cp_hash_rule.ensures.rule state c.standing.ensures.value))

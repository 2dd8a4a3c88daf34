use Rattle.tpm_policy.proofs.Agreeing.{agree-code}
use Rattle.tpm_policy.proofs.policy_command_code.assert_command_code.Goals as goal

-- src/policy_command_code.rt
pub add-requires-clause-agrees : goal.add-requires-clause-agrees
add-requires-clause-agrees c =
    let state = c.args.session.now.state in
    rw (c.fact_of.ensures) (agree-code state c.args.code (c.in_ok-policy_command_code_rule.ensures.rule state c.standing.ensures.value))

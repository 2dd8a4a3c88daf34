use Rattle.tpm_policy.proofs.Agreeing.{agree-unbound}
use Rattle.tpm_policy.proofs.session.add_unbound.Goals as goal

-- src/session.rt
pub add-requires-clause-agrees : goal.add-requires-clause-agrees
add-requires-clause-agrees c = agree-unbound c.args.session.now.state.facts c.args.fact.act c.requires.unbound

use Rattle.tpm_rules.proofs.Lengths.{cut_short}
use Rattle.tpm_rules.proofs.policy_authorize_nv.has_digest_behind.Goals as goal

-- src/policy_authorize_nv.rt
pub returns-then-content-lt34 : goal.returns-then-content-lt34
returns-then-content-lt34 c = cut_short c.args.content.now c.args.digest.now c.if-content-lt34.true

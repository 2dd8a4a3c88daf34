use Rattle.std.proofs.Common.{refl, ◌∙◌}
use Rattle.tpol_digest.proofs.TermLaws.{digest_at-term}
use Rattle.tpol_digest.proofs.policy.digest_of.Goals as goal

pub returns-clause-term : goal.returns-clause-term
returns-clause-term c = c.digest_after_elements.ensures ∙ digest_at-term c.args.policy.now.elements _ refl

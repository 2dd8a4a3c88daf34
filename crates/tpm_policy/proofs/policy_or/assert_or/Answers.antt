use Rattle.std.proofs.Common.{◌∙◌, ap, sym}
use Rattle.tpol_base.specs.declared.digest.Digest32.{Digest32}
use Rattle.std.specs.Prelude.{List}
use Rattle.tpm_policy.proofs.Agreeing.{holds_of}
use Rattle.tpm_policy.proofs.Meeting.{among_of}
use Rattle.tpm_rules.specs.PolicyOr.{policy_or_rule}
use Rattle.tpm_rules.specs.Session.{policy_digest_of}
use Rattle.tpm_policy.proofs.policy_or.assert_or.Goals as goal

-- src/policy_or.rt
pub add_unbound-requires-clause-meets : goal.add_unbound-requires-clause-meets
add_unbound-requires-clause-meets c =
    let state = c.args.session.now.state in
    let rule = ap (λ (digests : List Digest32). policy_or_rule state digests) (sym c.as_slice.ensures) ∙ c.in_ok-policy_or_rule.ensures.rule state c.standing.ensures.value in
    among_of (policy_digest_of state) c.args.digests (holds_of _ _ rule)

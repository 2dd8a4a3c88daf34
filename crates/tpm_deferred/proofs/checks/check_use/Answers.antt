use Rattle.std.proofs.Common.{◌∙◌, refl, subst}
use Rattle.tpm_deferred.specs.Attempts.{field_of}
use Rattle.tpm_rules.specs.AuthValue.{proves}
use Rattle.tpm_rules.specs.Checks.{first_broken_check}
use Rattle.tpm_rules.specs.Rule.{Breaks}
use Rattle.tpm_rules.specs.declared.checks.Use.{Use}
use Rattle.tpm_deferred.proofs.checks.check_use.Goals as goal

-- src/checks.rt
pub returns : goal.returns
returns c =
    let state = c.args.session.now.state in
    let attempt = c.args.attempt.now in
    let judge = proves (field_of state attempt) attempt.auth_value.now in
    record {
      checks =
          subst (λ (occasion : Use). Breaks c.check_use.result (first_broken_check state occasion attempt.auth_policy.now judge)) c.use_of.ensures
          (c.check_use.ensures.checks state judge
          c.standing.ensures.value
          (c.proves-right.ensures.proves ∙ rw (c.nonce.ensures, c.last_auth.ensures state.facts c.bindings.ensures.value) refl));
    }

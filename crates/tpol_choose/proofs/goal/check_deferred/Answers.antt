use Rattle.std.proofs.Common.{subst, ap, ◌∙◌}
use Rattle.tpm_rules.specs.Checks.{first_broken_check}
use Rattle.tpm_rules.specs.Entity.{auth_policy_of}
use Rattle.tpm_rules.specs.Rule.{Breaks}
use Rattle.tpol_choose.specs.Goals.{goal_use, proves}
use Rattle.tpol_choose.specs.Lent.{client_of_lent, entity_of_lent}
use Rattle.tpol_choose.proofs.Unbound.{same_check}
use Rattle.tpol_choose.proofs.goal.check_deferred.Goals as goal

pub returns : goal.returns
returns c = λ state e.
    let found = entity_of_lent c.args.found.now in
    let judge = proves c.args.client.now.grants.now found in
    let bound = ap (λ s. s.bindings) e in
    let cp = c.bound_cp_hash-cp_hash in
    let name = c.bound_name_hash-name_hash in
    let same = same_check state (goal_use (client_of_lent c.args.client.now) found) cp.result name.result (auth_policy_of found.entity) judge (cp.ensures state.facts bound) (name.ensures state.facts bound) in
    subst (Breaks c.check_use.result) same (subst (λ u. Breaks c.check_use.result (first_broken_check state u (auth_policy_of found.entity) judge)) c.goal_use-occasion.ensures (subst (λ p. Breaks c.check_use.result (first_broken_check state c.goal_use-occasion.result p judge)) c.auth_policy.ensures.policy (c.check_use.ensures.checks state judge e (c.proves-right.ensures ∙ ap judge (c.last_auth.ensures state.facts bound)))))

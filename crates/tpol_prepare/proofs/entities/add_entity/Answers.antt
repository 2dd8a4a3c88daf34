use Rattle.std.proofs.Common.{◌∙◌, ◌++◌, ◌∷◌, [], ap, sym, subst}
use Rattle.tpol_digest.specs.Digest.{policy_digest}
use Rattle.tpol_name.specs.Setups.{IsSetup}
use Rattle.tpol_prepare.specs.declared.entities.CompiledEntity.{CompiledEntity}
use Rattle.tpol_prepare.proofs.EntitiesAdded.{entity_added}
use Rattle.tpol_prepare.proofs.SetupsKept.{is_setup}
use Rattle.tpol_prepare.proofs.entities.add_entity.Goals as goal
use Rattle.tpol_steps.specs.declared.filled.FilledDocument.{FilledDocument}

pub returns-clause-entity : goal.returns-clause-entity
returns-clause-entity c =
    let digest_is = c.digest.ensures ∙ ap (λ (document : FilledDocument). policy_digest document.closed) c.in_ok-document.ensures in
    let entity = λ (document : FilledDocument). (let it : CompiledEntity = record { handle = c.args.policy.now.handle; document = document } in c.args.compiled.now.entities ++ it ∷ []) in
    entity_added c.args.compiled.now c.args.policy.now c.args.closed c.digest.result c.set_policy.new.setup c.in_ok-name.name c.push.new.self
    digest_is c.in_ok-set_policy.ensures c.in_ok-name.ensures (c.in_ok-push.ensures.ok ∙ ap entity c.in_ok-document.ensures)

pub returns-clause-setup : goal.returns-clause-setup
returns-clause-setup c = λ before.
    subst IsSetup (sym c.in_ok-set_policy.ensures) (is_setup c.args.policy.now.handle c.digest.result c.args.compiled.now.setup before)

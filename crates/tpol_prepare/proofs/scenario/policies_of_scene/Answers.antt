use Rattle.std.proofs.Common.{◌≡◌, ◌∙◌, subst, Some, Ok}
use Rattle.tpol_store.specs.Approvals.{approved_documents}
use Rattle.tpol_store.specs.Stores.{policies_of}
use Rattle.tpol_prepare.specs.declared.manner.Way.{Way}
use Rattle.tpol_prepare.specs.Prepared.{erased_prepared}
use Rattle.tpol_prepare.specs.Scenario.{IsScenarioOf, limited_step, scenario_with}
use Rattle.tpol_steps.specs.Steps.{Halts}
use Rattle.tpol_prepare.proofs.EntityPolicies.{have_unerased, prepared_have}
use Rattle.tpol_prepare.proofs.StagedScenes.{is_staged, script_kept, staged_as, staged_halts}
use Rattle.tpol_prepare.proofs.scenario.policies_of_scene.Goals as goal

pub returns-in-Ok-clause-answer : goal.returns-in-Ok-clause-answer
returns-in-Ok-clause-answer c =
    staged_as c.args.manner (policies_of c.args.store.now) c.args.scene.now c.in_ok-prepared.prepared c.in-Ok.approved.0
    c.in_ok-prepared.ensures.answer
    (subst (λ (way : Way). limited_step way (erased_prepared c.in_ok-prepared.prepared) (approved_documents (policies_of c.args.store.now) (Some c.in_ok-prepared.prepared.sight)) ≡ Ok tt) c.way.ensures c.in-Ok.ensures.answer)
    c.in-Ok.ensures.approvals

pub returns-in-Ok-clause-staged : goal.returns-in-Ok-clause-staged
returns-in-Ok-clause-staged c =
    let manner = c.args.manner in
    let scenario : IsScenarioOf c.in_ok-prepared.prepared.setup (scenario_with manner c.args.scene.now c.in_ok-prepared.prepared c.in-Ok.approved.0).scenario = record {
      entities = c.in-Ok.ensures.entities;
      begun = c.in-Ok.ensures.begun;
      few = λ blind. c.in-Ok.ensures.few (c.way.ensures ∙ blind);
      policies = have_unerased c.in_ok-prepared.prepared.setup c.in_ok-prepared.prepared.entities
          (prepared_have (policies_of c.args.store.now) c.args.scene.now (erased_prepared c.in_ok-prepared.prepared) c.in_ok-prepared.ensures.answer);
    } in
    is_staged manner c.args.scene.now c.in_ok-prepared.prepared c.in-Ok.approved.0
    (c.in_ok-prepared.ensures.setup c.requires.setup) scenario (c.in_ok-prepared.ensures.entities c.requires.readable) (c.in_ok-prepared.ensures.begun c.requires.readable) c.in-Ok.ensures.bounded c.requires.clients
    (script_kept (policies_of c.args.store.now) c.args.scene.now (erased_prepared c.in_ok-prepared.prepared) c.in_ok-prepared.ensures.answer c.requires.script)

pub returns-in-Err-clause-answer : goal.returns-in-Err-clause-answer
returns-in-Err-clause-answer c =
    staged_halts c.args.manner (policies_of c.args.store.now) c.args.scene.now c.in_ok-prepared.prepared c.in-Err.halt c.in_ok-prepared.ensures.answer
    (subst (λ (way : Way). Halts c.in-Err.halt (limited_step way (erased_prepared c.in_ok-prepared.prepared) (approved_documents (policies_of c.args.store.now) (Some c.in_ok-prepared.prepared.sight)))) c.way.ensures c.in-Err.ensures.answer)

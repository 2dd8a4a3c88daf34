-- What stays with each entity whose policy is compiled holds of a scene whose policies are filled.
use Rattle.std.proofs.Common.{◌≡◌, List, [], ◌∷◌, ◌++◌, refl, subst, Some, Ok, Err}
use Rattle.tpol_digest.specs.Digest.{policy_digest}
use Rattle.tpol_name.specs.declared.setup.Setup.{Setup}
use Rattle.tpol_name.specs.Setups.{first_sight}
use Rattle.tpol_entities.specs.declared.entities.EntityPolicy.{EntityPolicy}
use Rattle.tpol_scene.specs.declared.scene.Scene.{Scene}
use Rattle.tpol_store.specs.Stores.{NamedPolicy}
use Rattle.tpol_prepare.specs.declared.entities.CompiledEntity.{CompiledEntity}
use Rattle.tpol_prepare.specs.declared.entities.CompiledSetup.{CompiledSetup}
use Rattle.tpol_prepare.specs.declared.prepared.PreparedScene.{PreparedScene}
use Rattle.tpol_prepare.specs.Entities.{compiled_entity, compiled_step, entities_from, entity_step, no_entity, setup_with_policy, with_entity}
use Rattle.tpol_prepare.specs.FilledDocuments.{documents_from}
use Rattle.tpol_prepare.specs.Prepared.{begun_step, filled_scene_step, prepared_step, prepared_with}
use Rattle.tpol_prepare.specs.References.{entity_references, references_step, script_references}
use Rattle.tpol_steps.specs.declared.filled.FilledDocument.{FilledDocument}
use Rattle.tpol_steps.specs.Steps.{Step, ◌>>=◌}
use Rattle.tpol_tree.specs.declared.closed.Closed.{Closed}

module _ (Holds : Setup → List CompiledEntity → Type 0)
    (stays : (setup : Setup) (entities : List CompiledEntity) (policy : EntityPolicy) (closed : Closed) → Holds setup entities
    → Holds (setup_with_policy policy.handle (policy_digest closed) setup) (entities ++ compiled_entity policy closed ∷ [])) where
  -- ---- entity after entity

  holds_by : (store : List NamedPolicy) (compiled : CompiledSetup) (policy : EntityPolicy) (rest : List EntityPolicy) (result : CompiledSetup) (step : Step Closed)
      → ((after : CompiledSetup) → Holds after.setup after.entities → entities_from store after rest ≡ Ok result → Holds result.setup result.entities)
      → Holds compiled.setup compiled.entities
      → ((step >>= λ closed. Ok (with_entity compiled policy closed)) >>= λ after. entities_from store after rest) ≡ Ok result → Holds result.setup result.entities
  holds_by store compiled policy rest result (Err answer) later h e = absurd cc
  holds_by store compiled policy rest result (Ok closed) later h e =
      later (with_entity compiled policy closed) (stays compiled.setup compiled.entities policy closed h) e

  entities_keep : (store : List NamedPolicy) (compiled : CompiledSetup) (policies : List EntityPolicy) (result : CompiledSetup)
      → Holds compiled.setup compiled.entities → entities_from store compiled policies ≡ Ok result → Holds result.setup result.entities
  unfolding entities_from compiled_step
  entities_keep store compiled [] result h e =
      let same : compiled ≡ result = cc in subst (λ (c : CompiledSetup). Holds c.setup c.entities) same h
  entities_keep store compiled (policy ∷ rest) result h e =
      holds_by store compiled policy rest result (entity_step store compiled.setup policy) (λ after has gives. entities_keep store after rest result has gives) h e

  -- ---- a scene whose policies are filled

  prepared_end : (compiled : CompiledSetup) (result : PreparedScene) (begun : Step (List FilledDocument)) → Holds compiled.setup compiled.entities
      → (begun >>= λ b. Ok (prepared_with compiled b)) ≡ Ok result → Holds result.setup result.entities
  prepared_end compiled result (Err answer) h e = absurd cc
  prepared_end compiled result (Ok b) h e =
      let same : prepared_with compiled b ≡ result = cc in subst (λ (p : PreparedScene). Holds p.setup p.entities) same h

  prepared_by : (result : PreparedScene) (entities script : Step (Unit {0})) (compiled : Step CompiledSetup) (begun : CompiledSetup → Step (List FilledDocument))
      → ((c : CompiledSetup) → compiled ≡ Ok c → Holds c.setup c.entities)
      → (entities >>= λ one. script >>= λ two. compiled >>= λ c. begun c >>= λ b. Ok (prepared_with c b)) ≡ Ok result → Holds result.setup result.entities
  prepared_by result (Err answer) script compiled begun has e = absurd cc
  prepared_by result (Ok one) (Err answer) compiled begun has e = absurd cc
  prepared_by result (Ok one) (Ok two) (Err answer) begun has e = absurd cc
  prepared_by result (Ok one) (Ok two) (Ok c) begun has e = prepared_end c result (begun c) (has c refl) e

  pub prepared_keeps : (store : List NamedPolicy) (scene : Scene) (result : PreparedScene)
      → Holds scene.setup [] → prepared_step store scene ≡ Ok result → Holds result.setup result.entities
  unfolding prepared_step filled_scene_step begun_step
  prepared_keeps store scene result before e =
      prepared_by result (references_step store (entity_references scene)) (references_step store (script_references scene))
      (entities_from store (no_entity scene.setup) scene.policies)
      (λ compiled. documents_from store (Some (first_sight compiled.setup)) [] (script_references scene))
      (λ c gives. entities_keep store (no_entity scene.setup) scene.policies c before gives) e

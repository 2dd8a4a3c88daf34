-- The policies of a scene that is prepared are filled policies within the bounds of the wire.
use Rattle.std.proofs.Common.{◌≡◌, ◌++◌, refl, true, false, if◌then◌else◌, List, [], ◌∷◌, All, Option, Some, Ok, Err}
use Rattle.std.proofs.lemmas.List.Elements.{All-append, All-cons, All-nil}
use Rattle.std.specs.Prelude.{IfOk}
use Rattle.tpol_entities.specs.declared.entities.EntityPolicy.{EntityPolicy}
use Rattle.tpol_name.specs.declared.setup.Setup.{Setup}
use Rattle.tpol_name.specs.declared.sight.Sight.{Sight}
use Rattle.tpol_name.specs.Setups.{IsSetup, first_sight}
use Rattle.tpol_prepare.proofs.EntitiesKept.{prepared_keeps}
use Rattle.tpol_prepare.proofs.SetupsKept.{is_setup}
use Rattle.tpol_prepare.specs.declared.entities.CompiledSetup.{CompiledSetup}
use Rattle.tpol_prepare.specs.declared.prepared.PreparedScene.{PreparedScene}
use Rattle.tpol_prepare.specs.declared.references.Reference.{Reference}
use Rattle.tpol_prepare.specs.Entities.{IsReadyEntity, compiled_entity, compiled_step, entities_from, entity_step, no_entity, sight_before, with_entity}
use Rattle.tpol_prepare.specs.FilledDocuments.{document_step, documents_from, is_filled, reference_step}
use Rattle.tpol_prepare.specs.Prepared.{begun_step, filled_scene_step, prepared_step, prepared_with}
use Rattle.tpol_prepare.specs.References.{entity_references, policy_at, references_step, script_references}
use Rattle.tpol_digest.specs.Digest.{policy_digest}
use Rattle.tpol_scene.specs.declared.scene.Scene.{Scene}
use Rattle.tpol_steps.specs.declared.filled.FilledDocument.{FilledDocument}
use Rattle.tpol_steps.specs.Filled.{IsReady, IsReadyDocument, filled_step}
use Rattle.tpol_steps.specs.Steps.{Step, ◌>>=◌}
use Rattle.tpol_store.specs.Stores.{NamedPolicy}
use Rattle.tpol_tree.specs.declared.closed.Closed.{Closed}
use Rattle.tpol_tree.specs.declared.policy.Policy.{Policy}
use Rattle.tpol_laws.proofs.FilledForms.{step-ready}
use Rattle.tpol_laws.proofs.Readable.{AreReadable, looked-up-readable}

-- what a step gives, and what the next one makes of it
pub step-then : {A B : Type 0} (P : A → Type 0) (Q : B → Type 0) (step : Step A) (next : A → Step B) → IfOk step P
    → ((x : A) → step ≡ Ok x → P x → IfOk (next x) Q) → IfOk (step >>= next) Q
step-then P Q (Ok x) next gives go = go x refl gives
step-then P Q (Err answer) next gives go = tt

pub given : {A : Type 0} (P : A → Type 0) (step : Step A) → ((x : A) → step ≡ Ok x → P x) → IfOk step P
given P (Ok x) gives = gives x refl
given P (Err answer) gives = tt

pub any-given : {A : Type 0} (step : Step A) → IfOk step (λ x. Unit {0})
any-given (Ok x) = tt
any-given (Err answer) = tt

-- the policies of a scene, filled
pub record AreReady (prepared : PreparedScene) : Type 0 where
  pub entities : All IsReadyEntity prepared.entities
  pub begun : All IsReadyDocument prepared.begun

-- ---- one policy

module _ (store : List NamedPolicy) (readable : AreReadable store) where
  entity-ready : (setup : Setup) (policy : EntityPolicy) → IfOk (entity_step store setup policy) IsReady
  unfolding entity_step
  entity-ready setup policy =
      let next : Policy → Step Closed = λ written. filled_step (Some policy.name) written (Some (sight_before policy setup)) in
      step-then (λ written. written ≡ written) IsReady (policy_at store policy.name policy.place) next
      (given (λ written. written ≡ written) (policy_at store policy.name policy.place) (λ written e. refl))
      (λ written e same. given IsReady (next written)
      (λ closed fills. step-ready (Some policy.name) written (Some (sight_before policy setup)) closed (looked-up-readable store readable policy.name policy.place written e) fills))

  reference-ready : (sight : Option Sight) (reference : Reference) → IfOk (reference_step store sight reference) IsReadyDocument
  unfolding reference_step
  reference-ready sight reference =
      let closes : Policy → Step Closed = λ written. filled_step (Some reference.name) written sight in
      let names : Closed → Step FilledDocument = λ closed. Ok (record { name = reference.name; closed = closed }) in
      step-then (λ written. written ≡ written) IsReadyDocument (policy_at store reference.name reference.place) (λ written. closes written >>= names)
      (given (λ written. written ≡ written) (policy_at store reference.name reference.place) (λ written e. refl))
      (λ written e same. step-then IsReady IsReadyDocument (closes written) names
      (given IsReady (closes written)
      (λ closed fills. step-ready (Some reference.name) written sight closed (looked-up-readable store readable reference.name reference.place written e) fills))
      (λ closed fills is. is))

  -- ---- those of the entities

  compiled-ready : (compiled : CompiledSetup) (policy : EntityPolicy) → All IsReadyEntity compiled.entities
      → IfOk (compiled_step store compiled policy) (λ after. All IsReadyEntity after.entities)
  unfolding compiled_step
  compiled-ready compiled policy are =
      step-then IsReady (λ (after : CompiledSetup). All IsReadyEntity after.entities) (entity_step store compiled.setup policy) (λ closed. Ok (with_entity compiled policy closed))
      (entity-ready compiled.setup policy)
      (λ closed fills is. All-append IsReadyEntity compiled.entities (compiled_entity policy closed ∷ []) are (All-cons IsReadyEntity (compiled_entity policy closed) [] is (All-nil IsReadyEntity)))

  entities-ready : (compiled : CompiledSetup) (policies : List EntityPolicy) → All IsReadyEntity compiled.entities
      → IfOk (entities_from store compiled policies) (λ after. All IsReadyEntity after.entities)
  unfolding entities_from
  entities-ready compiled [] are = are
  entities-ready compiled (policy ∷ rest) are =
      step-then (λ (after : CompiledSetup). All IsReadyEntity after.entities) (λ (after : CompiledSetup). All IsReadyEntity after.entities)
      (compiled_step store compiled policy) (λ after. entities_from store after rest) (compiled-ready compiled policy are)
      (λ after e is. entities-ready after rest is)

  -- ---- those that the script begins

  document-ready : (sight : Option Sight) (before : List FilledDocument) (reference : Reference) → All IsReadyDocument before
      → IfOk (document_step store sight before reference) (All IsReadyDocument)
  unfolding document_step
  document-ready sight before reference are =
      let adds : FilledDocument → Step (List FilledDocument) = λ document. Ok (before ++ document ∷ []) in
      elim (is_filled reference.name before) as (λ b. IfOk (if b then Ok before else (reference_step store sight reference >>= adds)) (All IsReadyDocument)) [
        | true ↦ are
        | false ↦ step-then IsReadyDocument (All IsReadyDocument) (reference_step store sight reference) adds (reference-ready sight reference)
            (λ document e is. All-append IsReadyDocument before (document ∷ []) are (All-cons IsReadyDocument document [] is (All-nil IsReadyDocument)))
      ]

  documents-ready : (sight : Option Sight) (before : List FilledDocument) (references : List Reference) → All IsReadyDocument before
      → IfOk (documents_from store sight before references) (All IsReadyDocument)
  unfolding documents_from
  documents-ready sight before [] are = are
  documents-ready sight before (reference ∷ rest) are =
      step-then (All IsReadyDocument) (All IsReadyDocument) (document_step store sight before reference) (λ after. documents_from store sight after rest)
      (document-ready sight before reference are) (λ after e is. documents-ready sight after rest is)

  -- ---- all of them

  filled-ready : (scene : Scene) → IfOk (filled_scene_step store scene (script_references scene)) AreReady
  unfolding filled_scene_step begun_step
  filled-ready scene =
      step-then (λ (after : CompiledSetup). All IsReadyEntity after.entities) AreReady (entities_from store (no_entity scene.setup) scene.policies)
      (λ compiled. documents_from store (Some (first_sight compiled.setup)) [] (script_references scene) >>= λ documents. Ok (prepared_with compiled documents))
      (entities-ready (no_entity scene.setup) scene.policies (All-nil IsReadyEntity))
      (λ compiled e is. step-then (All IsReadyDocument) AreReady (documents_from store (Some (first_sight compiled.setup)) [] (script_references scene))
      (λ documents. Ok (prepared_with compiled documents))
      (documents-ready (Some (first_sight compiled.setup)) [] (script_references scene) (All-nil IsReadyDocument))
      (λ documents begins are. record { entities = is; begun = are }))

  pub prepared-ready : (scene : Scene) → IfOk (prepared_step store scene) AreReady
  unfolding prepared_step
  prepared-ready scene =
      step-then (λ there. Unit {0}) AreReady (references_step store (entity_references scene)) _ (any-given (references_step store (entity_references scene)))
      (λ there e any. step-then (λ there. Unit {0}) AreReady (references_step store (script_references scene)) _ (any-given (references_step store (script_references scene)))
      (λ script_there f more. filled-ready scene))

-- its setup is one that a machine can start from
pub prepared-setup : (store : List NamedPolicy) (scene : Scene) (prepared : PreparedScene) → IsSetup scene.setup → prepared_step store scene ≡ Ok prepared → IsSetup prepared.setup
prepared-setup store scene prepared is e =
    prepared_keeps (λ setup entities. IsSetup setup) (λ setup entities policy closed holds. is_setup policy.handle (policy_digest closed) setup holds)
    store scene prepared is e

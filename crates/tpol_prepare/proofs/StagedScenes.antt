-- A scene whose policies are filled and can be walked is staged.
use Rattle.std.proofs.Common.{◌≡◌, ℕ, List, [], All, map, refl, subst, sym, Option, Some, None, Ok}
use Rattle.std.specs.Prelude.{Result, IfSome}
use Rattle.tpol_base.specs.declared.document.Document.{Document}
use Rattle.tpol_digest.specs.Digest.{policy_digest}
use Rattle.tpol_goal.specs.declared.grants.Grants.{Grants}
use Rattle.tpol_name.specs.declared.setup.Setup.{Setup}
use Rattle.tpol_name.specs.Setups.{IsSetup}
use Rattle.tpol_scene.specs.Conditions.{AreEventsBehind, HasClients}
use Rattle.tpol_scene.specs.declared.scene.Scene.{Scene}
use Rattle.tpol_scene.specs.declared.script.ScriptEvent.{ScriptEvent}
use Rattle.tpol_store.specs.Approvals.{HasApprovedBounds, approved_documents}
use Rattle.tpol_store.specs.Stores.{NamedPolicy}
use Rattle.tpol_prepare.specs.declared.manner.Manner.{Manner}
use Rattle.tpol_prepare.specs.declared.prepared.PreparedScene.{PreparedScene}
use Rattle.tpol_prepare.specs.declared.scenario.StagedScene.{StagedScene}
use Rattle.tpol_prepare.specs.declared.manner.Way.{Way}
use Rattle.tpol_prepare.specs.Begins.{begins_step}
use Rattle.tpol_prepare.specs.Entities.{IsReadyEntity}
use Rattle.tpol_prepare.specs.Manner.{way_of}
use Rattle.tpol_prepare.specs.Prepared.{erased_prepared, prepared_step}
use Rattle.tpol_prepare.specs.Scenario.{CanHappen, IsScenarioOf, IsSceneFor, erased_staged, limited_step, scenario_with, staged_by, staged_from, staged_step, staged_with}
use Rattle.tpol_prepare.specs.Staged.{IsScriptOf, IsStaged}
use Rattle.tpol_steps.specs.declared.halt.Halt.{Halt}
use Rattle.tpol_steps.specs.declared.halt.Halt.TheVariants.{Refused, ReadFailed, ShelfFailed, NoMemory}
use Rattle.tpol_steps.specs.Filled.{IsReadyDocument}
use Rattle.tpol_steps.specs.SceneStep.{scene_of_bytes}
use Rattle.tpol_steps.specs.Steps.{Answers, Halts, Step, ◌>>=◌}
use Rattle.tpol_steps.specs.StoreStep.{store_step}
use Rattle.tpol_prepare.proofs.EntitiesKept.{prepared_keeps}
use Rattle.tpol_prepare.proofs.SetupsKept.{HasHandlesOf, handles_stay}
use Rattle.tpol_prepare.proofs.Walkable.{all_can_happen}
use Rattle.tpol_tree.specs.ClosedErased.{erased_document}
use Rattle.tpol_tree.specs.declared.path.ApprovedDoc.{ApprovedDoc}

-- ---- the script

same_handles : (setup : Setup) → HasHandlesOf setup setup
same_handles setup = record { objects = refl; indices = refl }

-- the entities keep their handles when their policies are compiled
handles_kept : (store : List NamedPolicy) (scene : Scene) (result : PreparedScene) → prepared_step store scene ≡ Ok result → HasHandlesOf scene.setup result.setup
handles_kept store scene result e =
    prepared_keeps (λ setup entities. HasHandlesOf scene.setup setup)
    (λ setup entities policy closed same. handles_stay policy.handle (policy_digest closed) scene.setup setup same)
    store scene result (same_handles scene.setup) e

script_over : (before setup : Setup) (clients : List (ℕ × Grants)) (script : List ScriptEvent) → HasHandlesOf before setup → IsScriptOf before clients script → IsScriptOf setup clients script
script_over before setup clients script same is =
    subst (λ objects. AreEventsBehind objects (map (λ i. i.public.index) setup.indices) (map (λ client. client.0) clients) [] script) (sym same.objects)
    (subst (λ indices. AreEventsBehind (map (λ o. o.handle) before.objects) indices (map (λ client. client.0) clients) [] script) (sym same.indices) is)

-- so the scene's script is one over them
pub script_kept : (store : List NamedPolicy) (scene : Scene) (result : PreparedScene) → prepared_step store scene ≡ Ok result → IsScriptOf scene.setup scene.clients scene.script
    → IsScriptOf result.setup scene.clients scene.script
script_kept store scene result e is = script_over scene.setup result.setup scene.clients scene.script (handles_kept store scene result e) is

-- ---- the steps to it

-- a scene whose policies are filled and within the limits is staged, whichever memory they lie in
pub staged_as : (manner : Manner) (store : List NamedPolicy) (scene : Scene) (prepared : PreparedScene) (approvals : List ApprovedDoc)
    → prepared_step store scene ≡ Ok (erased_prepared prepared)
    → limited_step (way_of manner) (erased_prepared prepared) (approved_documents store (Some prepared.sight)) ≡ Ok tt
    → map erased_document approvals ≡ approved_documents store (Some prepared.sight)
    → staged_with manner scene store ≡ Ok (erased_staged (scenario_with manner scene prepared approvals))
unfolding staged_with staged_by
staged_as manner store scene prepared approvals fills within same = rw (fills, within, ← same) refl

-- what ends a step ends all behind it
halts_then : {A B : Type 0} (halt : Halt) (step : Step A) (next : A → Step B) → Halts halt step → Halts halt (step >>= next)
halts_then (Refused answer) step next h = rw h refl
halts_then ReadFailed step next h = tt
halts_then ShelfFailed step next h = tt
halts_then NoMemory step next h = tt

-- and one whose policies are not within the limits is refused
pub staged_halts : (manner : Manner) (store : List NamedPolicy) (scene : Scene) (prepared : PreparedScene) (halt : Halt)
    → prepared_step store scene ≡ Ok (erased_prepared prepared)
    → Halts halt (limited_step (way_of manner) (erased_prepared prepared) (approved_documents store (Some prepared.sight)))
    → Halts halt (staged_with manner scene store)
unfolding staged_with staged_by
staged_halts manner store scene prepared halt fills refused =
    rw fills (halts_then halt (limited_step (way_of manner) (erased_prepared prepared) (approved_documents store (Some prepared.sight))) _ refused)

-- with the policies of the shelf, if its documents are known
pub on_shelf : {A : Type 0} (manner : Manner) (scene : Scene) (view : A → StagedScene) (all : Option (List Document)) (store : List NamedPolicy) (result : Result A Halt)
    → IfSome all (λ documents. store_step documents ≡ Ok store) → Answers view (staged_with manner scene store) result
    → IfSome all (λ documents. Answers view (staged_from manner scene documents) result)
on_shelf manner scene view None store result loads answers = tt
on_shelf manner scene view (Some documents) store result loads answers = rw loads answers

-- the same of the manner's own way and the scene's own script
few_begin : (manner : Manner) (scene : Scene) (way : Way) (script : List ScriptEvent) → way ≡ way_of manner → script ≡ scene.script → begins_step way script ≡ Ok tt
    → begins_step (way_of manner) scene.script ≡ Ok tt
few_begin manner scene way script driven same few =
    subst (λ (w : Way). begins_step w scene.script ≡ Ok tt) driven (subst (λ (s : List ScriptEvent). begins_step way s ≡ Ok tt) same few)

pub scene_for : (manner : Manner) (input : List ℕ) (scene : Scene) (way : Way) (script : List ScriptEvent)
    → scene_of_bytes input ≡ Ok scene → way ≡ way_of manner → script ≡ scene.script → begins_step way script ≡ Ok tt → IsSceneFor manner input
scene_for manner input scene way script reads driven same few = rw (reads, few_begin manner scene way script driven same few) refl

-- a scene that begins no more runs than may be driven so is staged by what comes behind
pub staged_few : {A : Type 0} (manner : Manner) (input : List ℕ) (scene : Scene) (way : Way) (script : List ScriptEvent) (view : A → StagedScene) (all : Option (List Document)) (result : Result A Halt)
    → scene_of_bytes input ≡ Ok scene → way ≡ way_of manner → script ≡ scene.script → begins_step way script ≡ Ok tt
    → IfSome all (λ documents. Answers view (staged_from manner scene documents) result)
    → IfSome all (λ documents. Answers view (staged_step manner input documents) result)
unfolding staged_step
staged_few manner input scene way script view None result reads driven same few answers = tt
staged_few manner input scene way script view (Some documents) result reads driven same few answers =
    rw (reads, few_begin manner scene way script driven same few) answers

-- ---- all of it

pub is_staged : (manner : Manner) (scene : Scene) (prepared : PreparedScene) (approvals : List ApprovedDoc) → IsSetup prepared.setup
    → IsScenarioOf prepared.setup (scenario_with manner scene prepared approvals).scenario → All IsReadyEntity prepared.entities → All IsReadyDocument prepared.begun → All HasApprovedBounds approvals
    → HasClients scene → IsScriptOf prepared.setup scene.clients scene.script → IsStaged (scenario_with manner scene prepared approvals)
is_staged manner scene prepared approvals setup scenario entities begun bounded clients script = record {
  setup = setup;
  scenario = scenario;
  directory = refl;
  entities = λ i entity within. (entities i entity within).bounded;
  begun = λ i document within. (begun i document within).bounded;
  approvals = bounded;
  grants = clients.grants;
  script = script;
}

-- its events can happen
pub events_can_happen : (staged : StagedScene) → IsStaged staged → All CanHappen staged.script
events_can_happen staged is =
    all_can_happen (map (λ o. o.handle) staged.setup.objects) (map (λ i. i.public.index) staged.setup.indices)
    (map (λ client. client.0) staged.scenario.clients) [] staged.script is.script

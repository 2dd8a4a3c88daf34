-- How a scene that is staged is carried out: as it was asked for.
use Rattle.std.proofs.Common.{◌≡◌, refl, subst, ℕ, List, Some, Ok, Err}
use Rattle.std.specs.Prelude.{IfOk}
use Rattle.tpol_base.specs.declared.document.Document.{Document}
use Rattle.tpol_prepare.specs.declared.manner.Manner.{Manner}
use Rattle.tpol_prepare.specs.declared.scenario.StagedScene.{StagedScene}
use Rattle.tpol_prepare.specs.Begins.{begins_step}
use Rattle.tpol_prepare.specs.Manner.{way_of}
use Rattle.tpol_prepare.specs.Prepared.{prepared_step}
use Rattle.tpol_prepare.specs.Scenario.{limited_step, scenario_with, staged_by, staged_from, staged_step, staged_with}
use Rattle.tpol_scene.specs.declared.scene.Scene.{Scene}
use Rattle.tpol_steps.specs.SceneStep.{scene_of_bytes}
use Rattle.tpol_steps.specs.Steps.{Step, ◌>>=◌}
use Rattle.tpol_steps.specs.StoreStep.{store_step}
use Rattle.tpol_store.specs.Approvals.{approved_documents}
use Rattle.tpol_store.specs.Stores.{NamedPolicy}

abbrev HasManner : Manner → StagedScene → Type 0
HasManner manner staged = staged.scenario.manner ≡ manner

-- what each second step gives, both give
behind : {A : Type 0} (manner : Manner) (step : Step A) (next : A → Step StagedScene) → ((x : A) → IfOk (next x) (HasManner manner)) → IfOk (step >>= next) (HasManner manner)
behind manner (Ok x) next each = each x
behind manner (Err answer) next each = tt

with_has : (manner : Manner) (scene : Scene) (store : List NamedPolicy) → IfOk (staged_with manner scene store) (HasManner manner)
unfolding staged_with staged_by
with_has manner scene store =
    behind manner (prepared_step store scene) (λ prepared. staged_by manner scene prepared (approved_documents store (Some prepared.sight)))
    (λ prepared. behind manner (limited_step (way_of manner) prepared (approved_documents store (Some prepared.sight)))
    (λ within. Ok (scenario_with manner scene prepared (approved_documents store (Some prepared.sight)))) (λ within. refl))

step_has : (manner : Manner) (input : List ℕ) (all : List Document) → IfOk (staged_step manner input all) (HasManner manner)
unfolding staged_step
step_has manner input all =
    behind manner (scene_of_bytes input) (λ scene. begins_step (way_of manner) scene.script >>= λ few. staged_from manner scene all)
    (λ scene. behind manner (begins_step (way_of manner) scene.script) (λ few. staged_from manner scene all)
    (λ few. behind manner (store_step all) (λ store. staged_with manner scene store) (λ store. with_has manner scene store)))

pub manner_kept : (manner : Manner) (input : List ℕ) (all : List Document) (staged : StagedScene) → staged_step manner input all ≡ Ok staged → staged.scenario.manner ≡ manner
manner_kept manner input all staged e = subst (λ (step : Step StagedScene). IfOk step (HasManner manner)) e (step_has manner input all)

-- Scenes whose policies are filled.
use Rattle.std.specs.Prelude.{List, [], map, Option, Some, None, Ok}
use Rattle.tpol_name.specs.declared.sight.Sight.{Sight}
use Rattle.tpol_name.specs.Setups.{first_sight}
use Rattle.tpol_scene.specs.declared.scene.Scene.{Scene}
use Rattle.tpol_store.specs.Stores.{NamedPolicy}
use Rattle.tpol_prepare.specs.declared.entities.CompiledSetup.{CompiledSetup}
use Rattle.tpol_prepare.specs.declared.prepared.PreparedScene.{PreparedScene}
use Rattle.tpol_prepare.specs.declared.references.Reference.{Reference}
use Rattle.tpol_prepare.specs.Entities.{entities_from, erased_entity, no_entity}
use Rattle.tpol_prepare.specs.FilledDocuments.{documents_from}
use Rattle.tpol_prepare.specs.References.{entity_references, references_step, script_references}
use Rattle.tpol_steps.specs.declared.filled.FilledDocument.{FilledDocument}
use Rattle.tpol_steps.specs.Filled.{erased_filled}
use Rattle.tpol_steps.specs.Steps.{Step, ◌>>=◌}

-- the entities with their policies, each filled with what the entities before it show, and the documents that the
-- script begins, filled with what the machine shows when it starts
abbrev pub prepared_with : CompiledSetup → List FilledDocument → PreparedScene
prepared_with compiled begun = record {
  setup = compiled.setup;
  sight = first_sight compiled.setup;
  entities = compiled.entities;
  begun = begun;
}

-- the policies of these references, filled, beside the entities
unfoldable pub begun_step : List NamedPolicy → CompiledSetup → List Reference → Step PreparedScene
begun_step store compiled begun =
    documents_from store (Some (first_sight compiled.setup)) [] begun >>= λ documents.
    Ok (prepared_with compiled documents)

-- the policies that the scene names, filled; its script begins those of these references
unfoldable pub filled_scene_step : List NamedPolicy → Scene → List Reference → Step PreparedScene
filled_scene_step store scene begun =
    entities_from store (no_entity scene.setup) scene.policies >>= λ compiled. begun_step store compiled begun

-- all policies that the scene names are there, and they are filled
unfoldable pub prepared_step : List NamedPolicy → Scene → Step PreparedScene
prepared_step store scene = do
  entities_are_there ← references_step store (entity_references scene)
  script_is_there ← references_step store (script_references scene)
  filled_scene_step store scene (script_references scene)

-- what the machine of the scene shows when it starts, if there is a scene
unfoldable pub opening_step : List NamedPolicy → Option Scene → Step (Option Sight)
opening_step store None = Ok None
opening_step store (Some scene) = prepared_step store scene >>= λ prepared. Ok (Some prepared.sight)

-- ---- whichever memory the policies lie in

abbrev pub erased_prepared : PreparedScene → PreparedScene
erased_prepared prepared = record prepared {
  entities = map erased_entity prepared.entities;
  begun = map erased_filled prepared.begun;
}

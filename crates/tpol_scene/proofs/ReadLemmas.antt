-- What a call promises that read a document as a scene.
use Rattle.std.proofs.Common.{◌≡◌, ℕ, List, Ok, subst}
use Rattle.std.specs.Prelude.{Some, Err}
use Rattle.serde_json.specs.Data.{Data}
use Rattle.tpol_json.proofs.AllFound.{AllFound}
use Rattle.tpol_json.specs.Document.{document_of}
use Rattle.tpol_json.specs.Places.{root}
use Rattle.tpol_json.specs.declared.place.Place.{Place}
use Rattle.tpol_entities.specs.Faults.{Found}
use Rattle.tpol_entities.specs.declared.fault.SceneKind.{SceneKind}
use Rattle.tpol_scene.specs.Scenes.{IsDocumentOf, IsFaultOf, scene_in}
use Rattle.tpol_scene.specs.declared.fault.SceneFault.TheVariants.{Bad}
use Rattle.tpol_scene.specs.declared.scene.Scene.{Scene}
use Rattle.tpol_scene.proofs.SceneLemmas.{SceneFits, scene_ok}
use Rattle.tpol_scene.proofs.SceneFaultsLemmas.{no_fault, first_fault}

pub stands : (bytes : List ℕ) (d : Data) (scene : Scene) → document_of bytes ≡ Some d → scene_in d root ≡ Ok scene → IsDocumentOf bytes scene
stands bytes d scene document reads = (d, document, record { no_fault = no_fault d scene reads; value = reads })

pub fits : (d : Data) (scene : Scene) → scene_in d root ≡ Ok scene → SceneFits scene
fits d scene reads =
    let P : Found Scene → Type 0 = AllFound SceneFits in
    subst P reads (scene_ok d root)

pub is_fault : (bytes : List ℕ) (d : Data) (kind : SceneKind) (place : Place) → document_of bytes ≡ Some d → scene_in d root ≡ Err (kind, place) → IsFaultOf bytes (Bad kind place)
is_fault bytes d kind place document refused = (d, document, first_fault d (kind, place) refused)

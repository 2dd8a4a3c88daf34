-- The step that reads a scene of the shelf.
use Rattle.std.specs.Prelude.{ℕ, List, [], ◌∷◌, ◌++◌, codes, length, nat_le, Option, Some, None, Ok, Err, if◌then◌else◌}
use Rattle.serde_json.specs.Data.{Data}
use Rattle.tpol_base.specs.declared.document.Document.{Document}
use Rattle.tpol_base.specs.Documents.{document_of, handed_out, most_handed_out}
use Rattle.tpol_json.specs.Document.{document_of as json_of}
use Rattle.tpol_json.specs.Places.{root}
use Rattle.tpol_entities.specs.Faults.{Fault, Found}
use Rattle.tpol_scene.specs.declared.scene.Scene.{Scene}
use Rattle.tpol_scene.specs.Scenes.{scene_faults, scene_in}
use Rattle.tpol_steps.specs.declared.answer.Answer.{Answer}
use Rattle.tpol_steps.specs.declared.answer.Verdict.TheVariants.{BadScene}
use Rattle.tpol_steps.specs.Answer.{one_line}
use Rattle.tpol_steps.specs.Refusals.{bad_scene, scene_kind_name, too_large_in}
use Rattle.tpol_steps.specs.Steps.{Step, ◌>>=◌}

-- the answer of bytes that are no JSON text
abbrev pub scene_not_json : Answer
scene_not_json = one_line (codes "error BadScene NotJson") BadScene

-- the answer of a fault
abbrev pub scene_refusal : Fault → Answer
scene_refusal fault = bad_scene (scene_kind_name fault.0) fault.1

-- what the scene says, unless there is a fault: then the first one ends the run
abbrev pub unless_scene_fault : List Fault → Found Scene → Step Scene
unless_scene_fault [] (Ok scene) = Ok scene
unless_scene_fault [] (Err fault) = Err (scene_refusal fault)
unless_scene_fault (fault ∷ faults) found = Err (scene_refusal fault)

abbrev pub scene_of_document : Option Data → Step Scene
scene_of_document None = Err scene_not_json
scene_of_document (Some d) = unless_scene_fault (scene_faults d) (scene_in d root)

-- the scene that the bytes are the document of
unfoldable pub scene_of_bytes : List ℕ → Step Scene
scene_of_bytes bytes = scene_of_document (json_of bytes)

-- the scene of this name, where the shelf hands out this
abbrev pub scene_of_found : List ℕ → Option (List ℕ) → Step Scene
scene_of_found name None = Err (one_line (codes "error BadScene NoSuchScene") BadScene)
scene_of_found name (Some bytes) =
    if nat_le most_handed_out (length bytes) then Err (too_large_in name) else scene_of_bytes bytes

-- the document of a scene
abbrev pub scene_file : List ℕ → List ℕ
scene_file name = name ++ codes ".scene"

-- the scene of this name on the shelf
unfoldable pub scene_step : List ℕ → List Document → Step Scene
scene_step name all = scene_of_found name (handed_out (document_of (scene_file name) all))

-- a scene of the shelf, if one is named
unfoldable pub named_scene_step : Option (List ℕ) → List Document → Step (Option Scene)
named_scene_step None all = Ok None
named_scene_step (Some name) all = scene_step name all >>= λ scene. Ok (Some scene)

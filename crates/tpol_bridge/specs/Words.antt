-- The words of the program.
use Rattle.std.specs.Prelude.{ℕ, Bool, true, false, List, [], ◌∷◌, Option, None, Some, codes, ◌&&◌, if◌then◌else◌}
use Rattle.std.specs.Option.{is_some, option_map_or}
use Rattle.std.specs.Str.{bytes_eq}
use Rattle.tpol_base.specs.PolicyName.{is_policy_name, without_folder}
use Rattle.tpol_bridge.specs.declared.request.Request.{Request}
use Rattle.tpol_bridge.specs.declared.request.Request.TheVariants.{Adopt, Differences, Digests, Export, Steps, Who}
use Rattle.tpol_front.specs.Numbers.{number_of_word}

-- the command of one word
abbrev pub one_word_request : List ℕ → Option Request
one_word_request word =
    if bytes_eq word (codes "adopt") then Some Adopt
    else (if bytes_eq word (codes "digests") then Some (Digests None)
    else (if bytes_eq word (codes "export") then Some Export
    else (if bytes_eq word (codes "who") then Some Who else None)))

-- the name of a scene, where it is one
abbrev pub scene_stem : List ℕ → Option (List ℕ)
scene_stem name = if is_policy_name (without_folder name) then Some (without_folder name) else None

-- the command `digests` with this scene
abbrev pub digests_request : Option (List ℕ) → Option Request
digests_request None = None
digests_request (Some scene) = Some (Digests (Some scene))

-- the command of three words: `digests`, `--scene` and a name
abbrev pub three_word_request : List ℕ → List ℕ → List ℕ → Option Request
three_word_request word option name =
    if bytes_eq word (codes "digests") && bytes_eq option (codes "--scene")
    then digests_request (scene_stem name) else None

-- the command `steps` of the path of a number
abbrev pub steps_request : Option (List ℕ) → Option ℕ → Option Request
steps_request scene None = None
steps_request scene (Some position) = Some (Steps position scene)

-- the command of two words: `steps` and a number, or `export` and `--differences`
abbrev pub two_word_request : List ℕ → List ℕ → Option Request
two_word_request word second =
    if bytes_eq word (codes "steps") then steps_request None (number_of_word second)
    else (if bytes_eq word (codes "export") && bytes_eq second (codes "--differences") then Some Differences else None)

-- the command `steps` with this scene
abbrev pub steps_scene_request : Option (List ℕ) → Option ℕ → Option Request
steps_scene_request None position = None
steps_scene_request (Some scene) position = steps_request (Some scene) position

-- the command of four words: `steps`, a number, `--scene` and a name
abbrev pub four_word_request : List ℕ → List ℕ → List ℕ → List ℕ → Option Request
four_word_request word position option name =
    if bytes_eq word (codes "steps") && bytes_eq option (codes "--scene")
    then steps_scene_request (scene_stem name) (number_of_word position) else None

-- the command that the words are
abbrev pub request_of : List (List ℕ) → Option Request
request_of [] = None
request_of (word ∷ []) = one_word_request word
request_of (word ∷ second ∷ []) = two_word_request word second
request_of (word ∷ option ∷ name ∷ []) = three_word_request word option name
request_of (word ∷ position ∷ option ∷ name ∷ []) = four_word_request word position option name
request_of (word ∷ second ∷ third ∷ fourth ∷ fifth ∷ rest) = None

-- each command reads the source
abbrev pub reads_source_for : Request → Bool
reads_source_for request = true

-- whether the words are a command that reads the source
abbrev pub reads_source : List (List ℕ) → Bool
reads_source words = option_map_or reads_source_for (request_of words) false

-- whether a command uses the shelf
abbrev pub uses_shelf_for : Request → Bool
uses_shelf_for Adopt = false
uses_shelf_for Export = false
uses_shelf_for Differences = false
uses_shelf_for (Digests scene) = is_some scene
uses_shelf_for (Steps position scene) = true
uses_shelf_for Who = true

-- whether the words are a command that uses the shelf
abbrev pub uses_shelf : List (List ℕ) → Bool
uses_shelf words = option_map_or uses_shelf_for (request_of words) false

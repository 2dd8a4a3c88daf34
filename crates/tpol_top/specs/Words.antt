-- The words of the program.
use Rattle.std.specs.Prelude.{ℕ, ◌&&◌, nat_le, Bool, true, false, List, [], ◌∷◌, Option, None, Some, codes, if◌then◌else◌}
use Rattle.std.specs.Option.{is_some, option_map_or}
use Rattle.std.specs.Str.{bytes_eq}
use Rattle.tpol_base.specs.PolicyName.{is_policy_name, without_folder}
use Rattle.tpol_top.specs.declared.request.Request.{Request}
use Rattle.tpol_top.specs.declared.request.Request.TheVariants.{Compile, Paths, Lint, Canon, Import, Check, Perform, Generate}
use Rattle.tpol_prepare.specs.declared.manner.Manner.TheVariants as manners
use Rattle.tpol_prepare.specs.declared.manner.Way.TheVariants.{Blind, Sighted, WithTickets}
use Rattle.tpol_front.specs.Numbers.{number_of_word}

-- the command of one word
abbrev pub one_word_request : List ℕ → Option Request
one_word_request word =
    if bytes_eq word (codes "compile") then Some (Compile None)
    else (if bytes_eq word (codes "paths") then Some (Paths None)
    else (if bytes_eq word (codes "lint") then Some (Lint None)
    else (if bytes_eq word (codes "canon") then Some Canon
    else (if bytes_eq word (codes "run") then Some (Perform (manners.Run Sighted))
    else (if bytes_eq word (codes "explain") then Some (Perform (manners.Explain Sighted)) else None)))))

-- the name of a policy or of a scene, where it is one
abbrev pub policy_stem : List ℕ → Option (List ℕ)
policy_stem name = if is_policy_name (without_folder name) then Some (without_folder name) else None

-- the command of a word with this policy
abbrev pub request_with_name : List ℕ → Option (List ℕ) → Option Request
request_with_name word None = None
request_with_name word (Some name) =
    if bytes_eq word (codes "import") then Some (Import name)
    else (if bytes_eq word (codes "check") then Some (Check name None) else None)

-- the command of two words: a word and a name
abbrev pub name_request : List ℕ → List ℕ → Option Request
name_request word name = request_with_name word (policy_stem name)

-- the command `run` with one more word
abbrev pub run_request : List ℕ → Option Request
run_request option =
    if bytes_eq option (codes "--blind") then Some (Perform (manners.Run Blind))
    else (if bytes_eq option (codes "--tickets") then Some (Perform (manners.Run WithTickets)) else None)

-- the command `explain` with one more word
abbrev pub explain_request : List ℕ → Option Request
explain_request option =
    if bytes_eq option (codes "--cert") then Some (Perform manners.Certify)
    else (if bytes_eq option (codes "--blind") then Some (Perform (manners.Explain Blind))
    else (if bytes_eq option (codes "--tickets") then Some (Perform (manners.Explain WithTickets)) else None))

-- the command of two words; what stands behind `run` and `explain` is no name
abbrev pub two_word_request : List ℕ → List ℕ → Option Request
two_word_request word second =
    if bytes_eq word (codes "run") then run_request second
    else (if bytes_eq word (codes "explain") then explain_request second else name_request word second)

-- the command of a word with this scene
abbrev pub request_with_scene : List ℕ → Option (List ℕ) → Option Request
request_with_scene word None = None
request_with_scene word (Some scene) =
    if bytes_eq word (codes "compile") then Some (Compile (Some scene))
    else (if bytes_eq word (codes "paths") then Some (Paths (Some scene))
    else (if bytes_eq word (codes "lint") then Some (Lint (Some scene)) else None))

-- the command of three words: a word, `--scene` and a name
abbrev pub scene_request : List ℕ → List ℕ → List ℕ → Option Request
scene_request word option name =
    if bytes_eq option (codes "--scene") then request_with_scene word (policy_stem name) else None

-- the command `gen`: of 1 to 12 ORs, in an order that a number below 2^32 gives
abbrev pub generation : Option ℕ → Option ℕ → Option Request
generation None order = None
generation (Some ors) None = None
generation (Some ors) (Some order) = if nat_le 1 ors && nat_le ors 12 then Some (Generate ors order) else None

-- the command of three words
abbrev pub three_word_request : List ℕ → List ℕ → List ℕ → Option Request
three_word_request word second third =
    if bytes_eq word (codes "gen") then generation (number_of_word second) (number_of_word third)
    else scene_request word second third

-- the command `check` of this policy, with this scene
abbrev pub check_request : Option (List ℕ) → Option (List ℕ) → Option Request
check_request None scene = None
check_request (Some name) None = None
check_request (Some name) (Some scene) = Some (Check name (Some scene))

-- the command of four words: `check`, a name, `--scene` and a name
abbrev pub four_word_request : List ℕ → List ℕ → List ℕ → List ℕ → Option Request
four_word_request word name option scene =
    if bytes_eq word (codes "check") && bytes_eq option (codes "--scene")
    then check_request (policy_stem name) (policy_stem scene) else None

-- the command that the words are
abbrev pub request_of : List (List ℕ) → Option Request
request_of [] = None
request_of (word ∷ []) = one_word_request word
request_of (word ∷ second ∷ []) = two_word_request word second
request_of (word ∷ second ∷ third ∷ []) = three_word_request word second third
request_of (word ∷ name ∷ option ∷ scene ∷ []) = four_word_request word name option scene
request_of (word ∷ second ∷ third ∷ fourth ∷ other ∷ rest) = None

-- whether a command reads the source
abbrev pub reads_source_for : Request → Bool
reads_source_for (Generate ors order) = false
reads_source_for request = true

-- whether the words are a command that reads the source
abbrev pub reads_source : List (List ℕ) → Bool
reads_source words = option_map_or reads_source_for (request_of words) false

-- whether a command uses the shelf
abbrev pub uses_shelf_for : Request → Bool
uses_shelf_for (Compile scene) = is_some scene
uses_shelf_for (Paths scene) = true
uses_shelf_for (Lint scene) = true
uses_shelf_for Canon = false
uses_shelf_for (Import name) = true
uses_shelf_for (Check name scene) = true
uses_shelf_for (Perform manner) = true
uses_shelf_for (Generate ors order) = false

-- whether the words are a command that uses the shelf
abbrev pub uses_shelf : List (List ℕ) → Bool
uses_shelf words = option_map_or uses_shelf_for (request_of words) false

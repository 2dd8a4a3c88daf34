-- The lines of refusals.
use Rattle.std.specs.Prelude.{ℕ, List, [], ◌++◌, codes, Option, Some, None}
use Rattle.tpol_fill.specs.declared.fault.FillKind.{FillKind}
use Rattle.tpol_fill.specs.declared.fault.FillKind.TheVariants.{NoSuchPath, NoSuchPcr, NotKeyedHash, VoidPrefix}
use Rattle.tpol_json.specs.declared.place.Place.{Place}
use Rattle.tpol_json.specs.PlaceText.{text_of_place}
use Rattle.tpol_members.specs.declared.fault.PolicyKind.{PolicyKind}
use Rattle.tpol_members.specs.declared.fault.PolicyKind.TheVariants as policy
use Rattle.tpol_entities.specs.declared.fault.SceneKind.{SceneKind}
use Rattle.tpol_entities.specs.declared.fault.SceneKind.TheVariants as scene
use Rattle.tpol_steps.specs.declared.answer.Answer.{Answer}
use Rattle.tpol_steps.specs.declared.answer.Verdict.TheVariants.{BadCert, BadPolicy, BadScene, PathLimit, TooLarge}
use Rattle.tpol_steps.specs.Answer.{one_line}

-- what is wrong, and where
abbrev pub at_place : List ℕ → List ℕ → Place → List ℕ
at_place what kind place = codes "error " ++ what ++ codes " " ++ kind ++ codes " at " ++ text_of_place place

-- of which document of the shelf, where it is not the source's own
abbrev pub in_document : Option (List ℕ) → List ℕ
in_document None = []
in_document (Some name) = codes " in " ++ name

abbrev pub bad_policy : List ℕ → Option (List ℕ) → Place → Answer
bad_policy kind document place = one_line (at_place (codes "BadPolicy") (kind ++ in_document document) place) BadPolicy

-- bytes that are no JSON text
abbrev pub policy_not_json : Option (List ℕ) → Answer
policy_not_json document = one_line (codes "error BadPolicy NotJson" ++ in_document document) BadPolicy

-- a policy that one of the words names, and that the shelf has not
abbrev pub no_such_policy : List ℕ → Answer
no_such_policy name = one_line (codes "error BadPolicy NoSuchPolicy in " ++ name) BadPolicy

-- what is wrong with a certificate
abbrev pub bad_certificate : List ℕ → Answer
bad_certificate fault = one_line (codes "error BadCert " ++ fault) BadCert

abbrev pub path_limit : List ℕ → Option (List ℕ) → Answer
path_limit kind document = one_line (codes "error PathLimit " ++ (kind ++ in_document document)) PathLimit

-- a document of the shelf
abbrev pub too_large_in : List ℕ → Answer
too_large_in name = one_line (codes "error TooLarge in " ++ name) TooLarge

abbrev pub bad_scene : List ℕ → Place → Answer
bad_scene kind place = one_line (at_place (codes "BadScene") kind place) BadScene

abbrev pub fill_kind_name : FillKind → List ℕ
fill_kind_name NoSuchPath = codes "NoSuchPath"
fill_kind_name NoSuchPcr = codes "NoSuchPcr"
fill_kind_name NotKeyedHash = codes "NotKeyedHash"
fill_kind_name VoidPrefix = codes "VoidPrefix"

abbrev pub policy_kind_name : PolicyKind → List ℕ
policy_kind_name policy.NotJson = codes "NotJson"
policy_kind_name policy.Missing = codes "Missing"
policy_kind_name policy.WrongKind = codes "WrongKind"
policy_kind_name policy.BadHex = codes "BadHex"
policy_kind_name policy.BadNumber = codes "BadNumber"
policy_kind_name policy.UnknownType = codes "UnknownType"
policy_kind_name policy.Unsupported = codes "Unsupported"
policy_kind_name policy.AsymmetricKey = codes "AsymmetricKey"
policy_kind_name policy.OtherHash = codes "OtherHash"
policy_kind_name policy.BranchCount = codes "BranchCount"
policy_kind_name policy.EmptyPolicy = codes "EmptyPolicy"
policy_kind_name policy.TooDeep = codes "TooDeep"
policy_kind_name policy.TooMany = codes "TooMany"
policy_kind_name policy.Twice = codes "Twice"

abbrev pub scene_kind_name : SceneKind → List ℕ
scene_kind_name scene.Missing = codes "Missing"
scene_kind_name scene.WrongKind = codes "WrongKind"
scene_kind_name scene.BadHex = codes "BadHex"
scene_kind_name scene.BadNumber = codes "BadNumber"
scene_kind_name scene.UnknownKind = codes "UnknownKind"
scene_kind_name scene.Twice = codes "Twice"
scene_kind_name scene.TooMany = codes "TooMany"
scene_kind_name scene.BadState = codes "BadState"
scene_kind_name scene.NoSuchPath = codes "NoSuchPath"
scene_kind_name scene.NoSuchClient = codes "NoSuchClient"
scene_kind_name scene.NoSuchRun = codes "NoSuchRun"
scene_kind_name scene.NoSuchPolicy = codes "NoSuchPolicy"

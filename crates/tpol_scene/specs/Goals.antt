-- The goals of a scene: the command that a client wants to be carried out.
use Rattle.std.specs.Prelude.{ℕ, List, [], ◌∷◌, codes, Option, Some, None, Ok}
use Rattle.serde_json.specs.Data.{Data}
use Rattle.tpol_base.specs.Answers.{◌>>=◌}
use Rattle.tpol_base.specs.Handle.{rh_null}
use Rattle.tpol_goal.specs.declared.goal.Goal.{Goal}
use Rattle.tpol_goal.specs.declared.goal.Goal.TheVariants as goals
use Rattle.tpol_json.specs.Values.{one_word}
use Rattle.tpol_json.specs.declared.place.Place.{Place}
use Rattle.tpol_entities.specs.declared.entities.Entities.{Entities}
use Rattle.tpol_entities.specs.declared.targets.Target.{Target}
use Rattle.tpol_entities.specs.declared.targets.Target.TheVariants.{Object, Index}
use Rattle.tpol_entities.specs.declared.fault.SceneKind.TheVariants.{UnknownKind}
use Rattle.tpol_entities.specs.Faults.{Found, read_as}
use Rattle.tpol_json.specs.Reading.{bad}
use Rattle.tpol_json.specs.Members.{optional}
use Rattle.tpol_entities.specs.Members.{needed}
use Rattle.tpol_entities.specs.Targets.{target_in}
use Rattle.tpol_entities.specs.Values.{object_in, unsigned_in, bytes_up_to}
use Rattle.tpol_scene.specs.declared.goals.GoalCommand.{GoalCommand}
use Rattle.tpol_scene.specs.declared.goals.GoalCommand.TheVariants.{Unseal, Hmac, NvRead, NvWrite, NvIncrement, Duplicate}

-- the commands that a goal may name
abbrev pub goal_commands : List (List ℕ × GoalCommand)
goal_commands =
    (codes "Unseal", Unseal) ∷ (codes "HMAC", Hmac) ∷ (codes "NV_Read", NvRead) ∷ (codes "NV_Write", NvWrite)
    ∷ (codes "NV_Increment", NvIncrement) ∷ (codes "Duplicate", Duplicate) ∷ []

abbrev pub known_command : Option GoalCommand → Place → Found GoalCommand
known_command None place = bad UnknownKind place
known_command (Some command) place = Ok command

-- one of them, in any case, with or without `TPM2_CC_` in front
abbrev pub goal_command_in : Data → Place → Found GoalCommand
goal_command_in d place =
    read_as (one_word (codes "TPM2_CC_") goal_commands d place) >>= λ command. known_command command place

-- what `path` names in a goal of each command: an object, or an index
abbrev pub path_target : GoalCommand → Target
path_target Unseal = Object
path_target Hmac = Object
path_target NvRead = Index
path_target NvWrite = Index
path_target NvIncrement = Index
path_target Duplicate = Object

-- an offset in an index's content
abbrev pub offset_in : Data → Place → Found ℕ
offset_in d place = optional (unsigned_in 0 65535) 0 (codes "offset") d place

unfoldable pub hmac_in : ℕ → Data → Place → Found Goal
hmac_in key d place = needed (bytes_up_to 1024) (codes "buffer") d place >>= λ buffer. Ok (goals.Hmac key buffer)

unfoldable pub nv_read_in : ℕ → Data → Place → Found Goal
nv_read_in index d place = do
  size ← needed (unsigned_in 0 1024) (codes "size") d place
  offset ← offset_in d place
  Ok (goals.NvRead index size offset)

unfoldable pub nv_write_in : ℕ → Data → Place → Found Goal
nv_write_in index d place = do
  bytes ← needed (bytes_up_to 1024) (codes "bytes") d place
  offset ← offset_in d place
  Ok (goals.NvWrite index offset bytes)

-- without a parent the object is for the null hierarchy
unfoldable pub duplicate_in : Entities → ℕ → Data → Place → Found Goal
duplicate_in entities object d place = do
  parent ← optional (target_in entities Object) rh_null (codes "parent") d place
  Ok (goals.Duplicate object parent)

-- what stands in a goal behind its command and its path, which names the entity with this handle
unfoldable pub goal_by : GoalCommand → Entities → ℕ → Data → Place → Found Goal
goal_by Unseal entities object d place = Ok (goals.Unseal object)
goal_by Hmac entities key d place = hmac_in key d place
goal_by NvRead entities index d place = nv_read_in index d place
goal_by NvWrite entities index d place = nv_write_in index d place
goal_by NvIncrement entities index d place = Ok (goals.NvIncrement index)
goal_by Duplicate entities object d place = duplicate_in entities object d place

unfoldable pub goal_in : Entities → Data → Place → Found Goal
goal_in entities d place = do
  is_object ← object_in d place
  command ← needed goal_command_in (codes "command") d place
  handle ← needed (target_in entities (path_target command)) (codes "path") d place
  goal_by command entities handle d place

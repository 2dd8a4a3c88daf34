-- Goals: the command that a client wants, its code and its handles.
use Rattle.std.specs.Prelude.{◌≡◌, ◌^◌, ◌<◌, ◌≤◌, ◌⊎◌, ⊤, ℕ, List, [], ◌∷◌, Option, Some, None, length}
use Rattle.std.specs.List.{Contains}
use Rattle.tpol_base.specs.declared.command_code.CommandCode.{CommandCode}
use Rattle.tpol_base.specs.declared.command_code.CommandCode.TheVariants as codes
use Rattle.tpol_base.specs.Handle.{rh_null}
use Rattle.tpol_goal.specs.declared.goal.Goal.{Goal}
use Rattle.tpol_goal.specs.declared.goal.Goal.TheVariants.{Unseal, Hmac, NvRead, NvWrite, NvIncrement, Duplicate}

-- the command's code
abbrev pub code_of_goal : Goal → CommandCode
code_of_goal (Unseal object) = codes.Unseal
code_of_goal (Hmac key buffer) = codes.Hmac
code_of_goal (NvRead index size offset) = codes.NvRead
code_of_goal (NvWrite index offset bytes) = codes.NvWrite
code_of_goal (NvIncrement index) = codes.NvIncrement
code_of_goal (Duplicate object parent) = codes.Duplicate

-- the first handle: what the policy session is used on
abbrev pub entity_of_goal : Goal → ℕ
entity_of_goal (Unseal object) = object
entity_of_goal (Hmac key buffer) = key
entity_of_goal (NvRead index size offset) = index
entity_of_goal (NvWrite index offset bytes) = index
entity_of_goal (NvIncrement index) = index
entity_of_goal (Duplicate object parent) = object

-- the second handle: an index authorizes itself
abbrev pub second_handle : Goal → Option ℕ
second_handle (Unseal object) = None
second_handle (Hmac key buffer) = None
second_handle (NvRead index size offset) = Some index
second_handle (NvWrite index offset bytes) = Some index
second_handle (NvIncrement index) = Some index
second_handle (Duplicate object parent) = Some parent

-- the handles in order
abbrev pub with_second : ℕ → Option ℕ → List ℕ
with_second first None = first ∷ []
with_second first (Some second) = first ∷ second ∷ []

abbrev pub handles_of_goal : Goal → List ℕ
handles_of_goal goal = with_second (entity_of_goal goal) (second_handle goal)

-- a goal whose bytes fit into its command
abbrev pub IsGoal : Goal → Type 0
IsGoal (Unseal object) = ⊤
IsGoal (Hmac key buffer) = length buffer ≤ 1024
IsGoal (NvRead index size offset) = size ≤ 1024
IsGoal (NvWrite index offset bytes) = length bytes ≤ 1024
IsGoal (NvIncrement index) = ⊤
IsGoal (Duplicate object parent) = ⊤

-- a goal whose offset has two bytes, as in its command
abbrev pub HasShortOffset : Goal → Type 0
HasShortOffset (Unseal object) = ⊤
HasShortOffset (Hmac key buffer) = ⊤
HasShortOffset (NvRead index size offset) = offset < 2 ^ 16
HasShortOffset (NvWrite index offset bytes) = offset < 2 ^ 16
HasShortOffset (NvIncrement index) = ⊤
HasShortOffset (Duplicate object parent) = ⊤

-- the goal's entity is one of these objects or of these indices, and so is a parent that is not the null
-- hierarchy
abbrev pub IsGoalAmong : List ℕ → List ℕ → Goal → Type 0
IsGoalAmong objects indices (Unseal object) = Contains objects object
IsGoalAmong objects indices (Hmac key buffer) = Contains objects key
IsGoalAmong objects indices (NvRead index size offset) = Contains indices index
IsGoalAmong objects indices (NvWrite index offset bytes) = Contains indices index
IsGoalAmong objects indices (NvIncrement index) = Contains indices index
IsGoalAmong objects indices (Duplicate object parent) =
    Contains objects object × ((parent ≡ rh_null) ⊎ Contains objects parent)

-- Plans whose commands can all be made.
use Rattle.std.specs.Prelude.{Bool, true, false, not, ◌&&◌, List, Option, Some, None, is_some}
use Rattle.std.specs.List.{list_all}
use Rattle.tpol_goal.specs.declared.grants.Grants.{Grants}
use Rattle.tpol_goal.specs.Entities.{entity_of_name, index_of_name, object_of_name}
use Rattle.tpol_goal.specs.Grants.{is_granted}
use Rattle.tpol_name.specs.declared.entries.DirEntry.{DirEntry}
use Rattle.tpol_tree.specs.declared.closed.Assertion.{Assertion}
use Rattle.tpol_tree.specs.declared.closed.Assertion.TheVariants as assertions
use Rattle.tpol_tree.specs.declared.path.Move.{Move}
use Rattle.tpol_tree.specs.declared.path.Move.TheVariants.{Assert, Or, Approve, ApproveNv}
use Rattle.tpol_driver.specs.declared.plan.Plan.{Plan}

-- a key that signs is an object, and is granted
abbrev pub is_granted_key : Grants → Option DirEntry → Bool
is_granted_key grants None = false
is_granted_key grants (Some entry) = is_granted grants.keys entry.handle

-- the entity of PolicySecret may be a hierarchy; keys are objects; the others are indices
abbrev pub is_known_assertion : List DirEntry → Grants → Assertion → Bool
is_known_assertion directory grants (assertions.Secret entity policy_ref cp_hash expiration) =
    is_some (entity_of_name directory entity)
is_known_assertion directory grants (assertions.Signed key policy_ref cp_hash expiration) =
    is_granted_key grants (object_of_name directory key)
is_known_assertion directory grants (assertions.Nv index operand offset operation) =
    is_some (index_of_name directory index)
is_known_assertion directory grants assertion = true

abbrev pub is_known_move : List DirEntry → Grants → Move → Bool
is_known_move directory grants (Assert assertion) = is_known_assertion directory grants assertion
is_known_move directory grants (Or digests) = true
is_known_move directory grants (Approve key policy_ref approved signature) = is_some (object_of_name directory key)
is_known_move directory grants (ApproveNv index approved) = is_some (index_of_name directory index)

-- no outside step, each Name is known with its kind, and each key that signs is granted
abbrev pub is_complete : Plan → Bool
is_complete plan = not plan.path.outside && list_all (is_known_move plan.directory plan.grants) plan.path.moves

-- The goal's command, and the hashes that its authorization is over.
use Rattle.std.specs.Prelude.{ℕ, List, [], ◌++◌}
use Rattle.std.specs.Int.{to_be_bytes, w16}
use Rattle.tpol_base.specs.declared.digest.Digest32.{Digest32}
use Rattle.tpol_base.specs.declared.name.Name.{Name}
use Rattle.tpol_base.specs.Constants.{alg_null, alg_sha256}
use Rattle.tpol_base.specs.Sized.{sized}
use Rattle.tpol_wire.specs.declared.auth_area.AuthArea.{AuthArea}
use Rattle.tpol_wire.specs.declared.command.Command.{Command}
use Rattle.tpol_wire.specs.declared.command.Command.TheVariants as commands
use Rattle.tpol_wire.specs.Hashes.{cp_hash, name_hash}
use Rattle.tpol_goal.specs.declared.goal.Goal.{Goal}
use Rattle.tpol_goal.specs.declared.goal.Goal.TheVariants.{Unseal, Hmac, NvRead, NvWrite, NvIncrement, Duplicate}

-- the goal's command with this authorization; an index authorizes itself, and HMAC is over SHA-256
abbrev pub command_of_goal : Goal → AuthArea → Command
command_of_goal (Unseal object) area = commands.Unseal object area
command_of_goal (Hmac key buffer) area = commands.Hmac key area buffer alg_sha256
command_of_goal (NvRead index size offset) area = commands.NvRead index index area size offset
command_of_goal (NvWrite index offset bytes) area = commands.NvWrite index index area bytes offset
command_of_goal (NvIncrement index) area = commands.NvIncrement index index area
command_of_goal (Duplicate object parent) area = commands.Duplicate object parent area

-- its parameters: HMAC is over SHA-256, and what Duplicate gives is not encrypted
abbrev pub parameters_of_goal : Goal → List ℕ
parameters_of_goal (Unseal object) = []
parameters_of_goal (Hmac key buffer) = sized buffer ++ to_be_bytes w16 alg_sha256
parameters_of_goal (NvRead index size offset) = to_be_bytes w16 size ++ to_be_bytes w16 offset
parameters_of_goal (NvWrite index offset bytes) = sized bytes ++ to_be_bytes w16 offset
parameters_of_goal (NvIncrement index) = []
parameters_of_goal (Duplicate object parent) = to_be_bytes w16 0 ++ to_be_bytes w16 alg_null

-- an authorization is no part of what is hashed, so that any stands for all
abbrev pub any_area : AuthArea
any_area = record { session = 0; nonce = []; attributes = 0; hmac = [] }

-- cpHash and nameHash of the goal's command, where entities have these Names by their handles
abbrev pub goal_cp_hash : (ℕ → Name) → Goal → Digest32
goal_cp_hash naming goal = cp_hash naming (command_of_goal goal any_area)

abbrev pub goal_name_hash : (ℕ → Name) → Goal → Digest32
goal_name_hash naming goal = name_hash naming (command_of_goal goal any_area)

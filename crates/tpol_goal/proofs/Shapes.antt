-- The goal's command, whatever its authorization: its code, its handles, its area and its parameters.
use Rattle.std.proofs.Common.{◌≡◌, ◌++◌, None, Some, refl, sym, ap}
use Rattle.std.specs.Int.{to_be_bytes, w16}
use Rattle.std.proofs.lemmas.List.{append-nil}
use Rattle.tpol_base.specs.Constants.{alg_sha256}
use Rattle.tpol_base.specs.Sized.{sized}
use Rattle.tpol_fields.specs.Kinds.{spell}
use Rattle.tpol_goal.specs.declared.goal.Goal.{Goal}
use Rattle.tpol_goal.specs.declared.goal.Goal.TheVariants.{Unseal, Hmac, NvRead, NvWrite, NvIncrement, Duplicate}
use Rattle.tpol_goal.specs.Commands.{command_of_goal, parameters_of_goal}
use Rattle.tpol_goal.specs.Goals.{code_of_goal, handles_of_goal}
use Rattle.tpol_wire.specs.declared.auth_area.AuthArea.{AuthArea}
use Rattle.tpol_wire.specs.Commands.{code_of_command, spell_parameters, spell_values}
use Rattle.tpol_wire.specs.Handles.{area_of, handles_of, policy_session_of}

pub code_of_goal-command : (goal : Goal) (area : AuthArea) → code_of_command (command_of_goal goal area) ≡ code_of_goal goal
code_of_goal-command (Unseal object) area = refl
code_of_goal-command (Hmac key buffer) area = refl
code_of_goal-command (NvRead index size offset) area = refl
code_of_goal-command (NvWrite index offset bytes) area = refl
code_of_goal-command (NvIncrement index) area = refl
code_of_goal-command (Duplicate object parent) area = refl

pub handles_of_goal-command : (goal : Goal) (area : AuthArea) → handles_of (command_of_goal goal area) ≡ handles_of_goal goal
handles_of_goal-command (Unseal object) area = refl
handles_of_goal-command (Hmac key buffer) area = refl
handles_of_goal-command (NvRead index size offset) area = refl
handles_of_goal-command (NvWrite index offset bytes) area = refl
handles_of_goal-command (NvIncrement index) area = refl
handles_of_goal-command (Duplicate object parent) area = refl

pub area_of-command_of_goal : (goal : Goal) (area : AuthArea) → area_of (command_of_goal goal area) ≡ Some area
area_of-command_of_goal (Unseal object) area = refl
area_of-command_of_goal (Hmac key buffer) area = refl
area_of-command_of_goal (NvRead index size offset) area = refl
area_of-command_of_goal (NvWrite index offset bytes) area = refl
area_of-command_of_goal (NvIncrement index) area = refl
area_of-command_of_goal (Duplicate object parent) area = refl

-- it acts on no policy session
pub policy_session_of-command_of_goal : (goal : Goal) (area : AuthArea) → policy_session_of (command_of_goal goal area) ≡ None
policy_session_of-command_of_goal (Unseal object) area = refl
policy_session_of-command_of_goal (Hmac key buffer) area = refl
policy_session_of-command_of_goal (NvRead index size offset) area = refl
policy_session_of-command_of_goal (NvWrite index offset bytes) area = refl
policy_session_of-command_of_goal (NvIncrement index) area = refl
policy_session_of-command_of_goal (Duplicate object parent) area = refl

-- its parameters as the wire spells them
pub spell_parameters-command_of_goal : (goal : Goal) (area : AuthArea) → spell_parameters (command_of_goal goal area) ≡ parameters_of_goal goal
unfolding spell_values spell
spell_parameters-command_of_goal (Unseal object) area = refl
spell_parameters-command_of_goal (Hmac key buffer) area = ap (λ l. sized buffer ++ l) (append-nil (to_be_bytes w16 alg_sha256))
spell_parameters-command_of_goal (NvRead index size offset) area = ap (λ l. to_be_bytes w16 size ++ l) (append-nil (to_be_bytes w16 offset))
spell_parameters-command_of_goal (NvWrite index offset bytes) area = ap (λ l. sized bytes ++ l) (append-nil (to_be_bytes w16 offset))
spell_parameters-command_of_goal (NvIncrement index) area = refl
spell_parameters-command_of_goal (Duplicate object parent) area = refl

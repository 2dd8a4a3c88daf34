-- The hashes of the goal's command by its parts. They are the same where its handles have the same Names.
use Rattle.std.proofs.Common.{◌≡◌, ℕ, ◌++◌, List, ap, sym, ◌∙◌}
use Rattle.std.specs.Int.{to_be_bytes, w32}
use Rattle.tpol_base.specs.declared.command_code.CommandCode.{CommandCode}
use Rattle.tpol_base.specs.declared.digest.Digest32.{Digest32}
use Rattle.tpol_base.specs.declared.name.Name.{Name}
use Rattle.tpol_base.specs.CommandCode.{number_of_code}
use Rattle.tpol_goal.specs.declared.goal.Goal.{Goal}
use Rattle.tpol_goal.specs.Commands.{any_area, command_of_goal, goal_cp_hash, goal_name_hash, parameters_of_goal}
use Rattle.tpol_goal.specs.Goals.{code_of_goal, handles_of_goal}
use Rattle.tpol_goal.proofs.Shapes.{code_of_goal-command, handles_of_goal-command, spell_parameters-command_of_goal}
use Rattle.tpol_hash.specs.Sha256.{sha256_digest}
use Rattle.tpol_wire.specs.declared.auth_area.AuthArea.{AuthArea}
use Rattle.tpol_wire.specs.Commands.{spell_parameters}
use Rattle.tpol_wire.specs.Handles.{handles_of}
use Rattle.tpol_wire.specs.Hashes.{cp_hash, joined_names, name_hash}

-- what is hashed for cpHash, by its parts
abbrev hash_of_parts : CommandCode → List ℕ → List ℕ → Digest32
hash_of_parts code names parameters = sha256_digest (to_be_bytes w32 (number_of_code code) ++ names ++ parameters)

pub cp_hash-by_parts : (naming : ℕ → Name) (goal : Goal) (area : AuthArea) → cp_hash naming (command_of_goal goal area)
    ≡ sha256_digest (to_be_bytes w32 (number_of_code (code_of_goal goal)) ++ joined_names naming (handles_of_goal goal) ++ parameters_of_goal goal)
unfolding cp_hash
cp_hash-by_parts naming goal area =
    ap (λ (code : CommandCode). hash_of_parts code (joined_names naming (handles_of (command_of_goal goal area))) (spell_parameters (command_of_goal goal area))) (code_of_goal-command goal area)
    ∙ ap (λ (handles : List ℕ). hash_of_parts (code_of_goal goal) (joined_names naming handles) (spell_parameters (command_of_goal goal area))) (handles_of_goal-command goal area)
    ∙ ap (hash_of_parts (code_of_goal goal) (joined_names naming (handles_of_goal goal))) (spell_parameters-command_of_goal goal area)

pub name_hash-by_parts : (naming : ℕ → Name) (goal : Goal) (area : AuthArea) → name_hash naming (command_of_goal goal area) ≡ sha256_digest (joined_names naming (handles_of_goal goal))
unfolding name_hash
name_hash-by_parts naming goal area = ap (λ (handles : List ℕ). sha256_digest (joined_names naming handles)) (handles_of_goal-command goal area)

-- ---- where the handles have the same Names, whatever the authorization

pub cp_hash-same : (one other : ℕ → Name) (goal : Goal) (area : AuthArea) → joined_names one (handles_of_goal goal) ≡ joined_names other (handles_of_goal goal)
    → goal_cp_hash one goal ≡ cp_hash other (command_of_goal goal area)
cp_hash-same one other goal area same =
    cp_hash-by_parts one goal any_area
    ∙ ap (λ (names : List ℕ). hash_of_parts (code_of_goal goal) names (parameters_of_goal goal)) same
    ∙ sym (cp_hash-by_parts other goal area)

pub name_hash-same : (one other : ℕ → Name) (goal : Goal) (area : AuthArea) → joined_names one (handles_of_goal goal) ≡ joined_names other (handles_of_goal goal)
    → goal_name_hash one goal ≡ name_hash other (command_of_goal goal area)
name_hash-same one other goal area same =
    name_hash-by_parts one goal any_area ∙ ap sha256_digest same ∙ sym (name_hash-by_parts other goal area)

-- The bytes of the reply to a goal's command are what the goal gives.
use Rattle.std.proofs.Common.{◌≡◌, ℕ, [], refl}
use Rattle.std.specs.Prelude.{Option, Some, None}
use Rattle.std.specs.Option.{option_map_or}
use Rattle.tpm_nv.specs.Indices.{index_of}
use Rattle.tpm_world.specs.Missing.{missing_index, missing_object}
use Rattle.tpm_world.specs.Objects.{object_of}
use Rattle.tpm_world.specs.Plain.{plain_reply}
use Rattle.tpm_world.specs.World.{WorldState}
use Rattle.tpol_driver.specs.GoalUse.{bytes_of_reply}
use Rattle.tpol_goal.specs.Commands.{command_of_goal}
use Rattle.tpol_goal.specs.declared.goal.Goal.{Goal}
use Rattle.tpol_goal.specs.declared.goal.Goal.TheVariants.{Duplicate, Hmac, NvIncrement, NvRead, NvWrite, Unseal}
use Rattle.tpol_name.specs.declared.entries.IndexEntry.{IndexEntry}
use Rattle.tpol_name.specs.declared.entries.ObjectEntry.{ObjectEntry}
use Rattle.tpol_wire.specs.declared.auth_area.AuthArea.{AuthArea}
use Rattle.tpol_wire.specs.declared.reply.Reply.{Reply}
use Rattle.tpol_wire.specs.declared.reply.Reply.TheVariants.{Refused}
use Rattle.tpol_laws.specs.GoalBytes.{goal_bytes}

through : {A : Type 0} (reply : A → Reply) (code : ℕ) (found : Option A)
    → bytes_of_reply (option_map_or reply found (Refused (record { code = code }))) ≡ option_map_or (λ a. bytes_of_reply (reply a)) found []
through reply code None = refl
through reply code (Some a) = refl

pub goal-bytes : (world : WorldState) (goal : Goal) (area : AuthArea) → bytes_of_reply (plain_reply world (command_of_goal goal area)) ≡ goal_bytes world goal
goal-bytes world (Unseal object) area = through {A = ObjectEntry} _ missing_object (object_of object world.objects)
goal-bytes world (Hmac key buffer) area = through {A = ObjectEntry} _ missing_object (object_of key world.objects)
goal-bytes world (NvRead index size offset) area = through {A = IndexEntry} _ missing_index (index_of index world.indices)
goal-bytes world (NvWrite index offset bytes) area = refl
goal-bytes world (NvIncrement index) area = refl
goal-bytes world (Duplicate object parent) area = through {A = ObjectEntry} _ missing_object (object_of object world.objects)

-- HMACs that are one by chance: a run's and the machine's, though the blocks of their keys differ, or the Names
-- that they are over.
use Rattle.std.specs.Prelude.{◌≡◌, ◌≢◌, ◌⊎◌, ℕ, false, List, map, Option, Some, None, slice_get}
use Rattle.tpm_auth.specs.SessionMacs.{command_mac}
use Rattle.tpm_auth.specs.Signatures.{signature_of, signed_hash}
use Rattle.tpm_engine.specs.declared.event.Event.{Event}
use Rattle.tpm_engine.specs.Views.{session_state, world_at}
use Rattle.tpm_rules.specs.Entity.{Entity, auth_value_of}
use Rattle.tpm_world.specs.Entities.{entity_at, name_at}
use Rattle.tpm_world.specs.Hashes.{cp_hash}
use Rattle.tpm_world.specs.Objects.{object_of}
use Rattle.tpm_world.specs.World.{WorldState}
use Rattle.tpol_base.specs.declared.digest.Digest32.{Digest32}
use Rattle.tpol_base.specs.Digest.{optional_bytes}
use Rattle.tpol_choose.specs.Keys.{is_same_block}
use Rattle.tpol_driver.specs.declared.plan.Plan.{Plan}
use Rattle.tpol_driver.specs.declared.session.Session.{Session}
use Rattle.tpol_driver.specs.Commands.{caller_nonce, command_of_move, key_of}
use Rattle.tpol_driver.specs.Driving.{Closing, Moving, Over, Standing, Starting}
use Rattle.tpol_driver.specs.GoalUse.{goal_command, goal_hmac, goal_secret, plan_cp_hash}
use Rattle.tpol_goal.specs.declared.grants.Grants.{Grants}
use Rattle.tpol_goal.specs.Entities.{name_of_handle}
use Rattle.tpol_goal.specs.Goals.{entity_of_goal, handles_of_goal}
use Rattle.tpol_name.specs.declared.entries.ObjectEntry.{ObjectEntry}
use Rattle.tpol_tree.specs.declared.path.Move.{Move}
use Rattle.tpol_wire.specs.declared.command.Command.{Command}
use Rattle.tpol_wire.specs.declared.command.Command.TheVariants as commands
use Rattle.tpol_fields.specs.declared.ticket.Ticket.{Ticket}
use Rattle.tpol_laws.specs.Acts.{Course, Run}

-- ---- PolicySigned

-- the key that is granted for an object signs the digest as the object's own key does, whose block is another
pub record IsSignedByChance (grants : Grants) (world : WorldState) (key : ℕ) (digest : Digest32) : Type 0 where
  pub object : ObjectEntry
  pub held : object_of key world.objects ≡ Some object
  pub apart : is_same_block (key_of grants key) object.secret ≡ false
  pub same : signature_of (key_of grants key) digest ≡ signature_of object.secret digest

abbrev pub SignsByChance : Grants → WorldState → Command → Type 0
SignsByChance grants world (commands.PolicySigned key own nonce cp_hash policy_ref expiration signature) =
    IsSignedByChance grants world key (signed_hash nonce expiration (optional_bytes cp_hash) policy_ref)
SignsByChance grants world _ = ⊥

-- ---- the goal

-- the HMAC that a run makes of its goal's command: its key is the value that is granted, and it is over the Names
-- of the directory
abbrev pub mac_made : Plan → Session → ℕ → Digest32
mac_made plan session sent =
    command_mac (goal_secret plan) (plan_cp_hash plan)
    (caller_nonce plan.nonce_seed sent).bytes session.nonce 0

-- the one that the machine asks for: its key is the value of the entity, and it is over the Names as they are
abbrev pub mac_asked : Plan → WorldState → Digest32 → Session → ℕ → Entity → Digest32
mac_asked plan world nonce session sent entity =
    command_mac (auth_value_of entity) (cp_hash world (goal_command plan session sent)) (caller_nonce plan.nonce_seed sent).bytes nonce 0

-- the run sends an HMAC, which is the one that the machine asks for, with another key or over other Names
pub record IsProvedByChance (plan : Plan) (world : WorldState) (nonce : Digest32) (session : Session) (sent : ℕ) : Type 0 where
  pub entity : Entity
  pub there : entity_at world (entity_of_goal plan.goal) ≡ Some entity
  pub sends : goal_hmac plan session (caller_nonce plan.nonce_seed sent) ≡ (mac_made plan session sent).bytes
  pub apart : (is_same_block (goal_secret plan) (auth_value_of entity) ≡ false) ⊎ (map (name_of_handle plan.directory) (handles_of_goal plan.goal) ≢ map (name_at world) (handles_of_goal plan.goal))
  pub same : mac_made plan session sent ≡ mac_asked plan world nonce session sent entity

-- ---- in a run

-- of the next command, which is that of a move, or the goal's
abbrev pub ChanceOf : Run → List Event → Session → ℕ → Option Ticket → Option Move → Type 0
ChanceOf run past session sent ticket (Some act) =
    SignsByChance run.plan.grants (world_at run.setup past) (command_of_move run.plan.directory run.plan.grants session ticket act)
ChanceOf run past session sent ticket None =
    IsProvedByChance run.plan (world_at run.setup past) (session_state run.setup past session.handle).nonce session sent

abbrev pub ChanceAt : Run → List Event → Standing → Type 0
ChanceAt run past Starting = ⊥
ChanceAt run past (Moving session sent ticket done) = ChanceOf run past session sent ticket (slice_get run.plan.path.moves done)
ChanceAt run past (Closing session end) = ⊥
ChanceAt run past (Over end) = ⊥

-- what the run sends next has an HMAC that is right by chance
abbrev pub IsByChance : Run → Course → Type 0
IsByChance run course = ChanceAt run course.past course.standing

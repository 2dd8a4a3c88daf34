-- The goal's command, with the policy session's authorization, and what its reply has to be.
use Rattle.std.specs.Prelude.{ℕ, Bool, ◌==◌, ◌&&◌, List, [], length, map, None, if◌then◌else◌}
use Rattle.std.specs.Str.{bytes_eq}
use Rattle.tpm_auth.specs.SessionMacs.{command_mac, reply_mac}
use Rattle.tpm_bindings.specs.declared.last_auth.LastAuth.{LastAuth}
use Rattle.tpm_bindings.specs.declared.last_auth.LastAuth.TheVariants as auths
use Rattle.tpm_bindings.specs.Facts.{last_auth}
use Rattle.tpm_bindings.specs.Merged.{fact_of}
use Rattle.tpol_base.specs.declared.digest.Digest32.{Digest32}
use Rattle.tpol_base.specs.CommandCode.{number_of_code}
use Rattle.tpol_base.specs.Digest.{digest_of_bytes}
use Rattle.tpol_driver.specs.declared.plan.Plan.{Plan}
use Rattle.tpol_driver.specs.declared.session.Session.{Session}
use Rattle.tpol_driver.specs.Commands.{caller_nonce}
use Rattle.tpol_goal.specs.Commands.{command_of_goal, goal_cp_hash}
use Rattle.tpol_goal.specs.Entities.{name_of_handle}
use Rattle.tpol_goal.specs.Goals.{code_of_goal, entity_of_goal}
use Rattle.tpol_goal.specs.Grants.{secret_of}
use Rattle.tpol_tree.specs.declared.facts.Fact.{Fact}
use Rattle.tpol_tree.specs.declared.path.Move.{Move}
use Rattle.tpol_wire.specs.declared.auth_area.AuthArea.{AuthArea}
use Rattle.tpol_wire.specs.declared.auth_area.ReplyAuth.{ReplyAuth}
use Rattle.tpol_wire.specs.declared.command.Command.{Command}
use Rattle.tpol_wire.specs.declared.reply.Reply.{Reply}
use Rattle.tpol_wire.specs.declared.reply.Reply.TheVariants as replies
use Rattle.tpol_wire.specs.Hashes.{rp_hash}

-- ---- the command

-- continueSession is clear: the session ends with the use
abbrev pub area_of_goal : Session → Digest32 → List ℕ → AuthArea
area_of_goal session nonce_caller hmac =
    record { session = session.handle; nonce = nonce_caller.bytes; attributes = 0; hmac = hmac }

-- ---- what authorizes the use

-- a move as the fact that a session keeps of it, of which only what it binds counts here
abbrev pub bare_fact : Move → Fact
bare_fact act = fact_of 0 act None None

-- how the value is to be proved: as the facts of the path's moves ask for
abbrev pub auth_of_path : List Move → LastAuth
auth_of_path moves = last_auth (map bare_fact moves)

-- the value that is granted for the goal's entity
abbrev pub goal_secret : Plan → List ℕ
goal_secret plan = secret_of plan.grants.secrets (entity_of_goal plan.goal)

-- the key of the HMACs: that value after PolicyAuthValue, else empty
abbrev pub mac_key_by : LastAuth → List ℕ → List ℕ
mac_key_by auths.AuthValue secret = secret
mac_key_by auth secret = []

abbrev pub mac_key : Plan → List ℕ
mac_key plan = mac_key_by (auth_of_path plan.path.moves) (goal_secret plan)

-- cpHash, by the Names of the directory
abbrev pub plan_cp_hash : Plan → Digest32
plan_cp_hash plan = goal_cp_hash (name_of_handle plan.directory) plan.goal

-- an HMAC is empty where its key is
abbrev pub unless_empty : List ℕ → Digest32 → List ℕ
unless_empty key mac = if length key == 0 then [] else mac.bytes

-- the field hmac: the value itself after PolicyPassword, else the HMAC
abbrev pub hmac_by : LastAuth → Plan → Session → Digest32 → List ℕ
hmac_by auths.Password plan session nonce_caller = goal_secret plan
hmac_by auth plan session nonce_caller =
    unless_empty (mac_key plan)
    (command_mac (mac_key plan) (plan_cp_hash plan) nonce_caller.bytes session.nonce 0)

abbrev pub goal_hmac : Plan → Session → Digest32 → List ℕ
goal_hmac plan session nonce_caller = hmac_by (auth_of_path plan.path.moves) plan session nonce_caller

-- the goal's command as the run's command with this number
abbrev pub goal_command : Plan → Session → ℕ → Command
goal_command plan session number =
    command_of_goal plan.goal
    (area_of_goal session (caller_nonce plan.nonce_seed number)
    (goal_hmac plan session (caller_nonce plan.nonce_seed number)))

-- ---- the reply

-- rpHash
abbrev pub plan_rp_hash : Plan → Reply → Digest32
plan_rp_hash plan reply = rp_hash (number_of_code (code_of_goal plan.goal)) reply

-- the field hmac that is right: over the reply's fields, the area's own nonce, the nonce of the caller and the
-- attributes; empty where the key is
abbrev pub right_hmac : Plan → ℕ → Reply → List ℕ → List ℕ
right_hmac plan number reply nonce =
    unless_empty (mac_key plan)
    (reply_mac (mac_key plan) (plan_rp_hash plan reply) (digest_of_bytes nonce)
    (caller_nonce plan.nonce_seed number).bytes 0)

-- an area is right with a nonce of 32 bytes, the command's attributes and the right hmac
abbrev pub is_right_area : Plan → ℕ → Reply → ReplyAuth → Bool
is_right_area plan number reply area =
    length area.nonce == 32 && area.attributes == 0 && bytes_eq area.hmac (right_hmac plan number reply area.nonce)

-- what the goal's command gave
abbrev pub bytes_of_reply : Reply → List ℕ
bytes_of_reply (replies.Unseal bytes) = bytes
bytes_of_reply (replies.Hmac digest) = digest.bytes
bytes_of_reply (replies.NvRead bytes) = bytes
bytes_of_reply (replies.Duplicate bytes) = bytes
bytes_of_reply reply = []

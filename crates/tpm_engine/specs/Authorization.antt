-- How a command is authorized (TPM 2.0 Part 1, "Authorizations and Acknowledgments"): by a password, or by a
-- policy session whose deferred checks hold; and the authorization area of the reply.
use Rattle.std.specs.Prelude.{◌≡◌, ℕ, ◌==◌, ◌&&◌, List, [], length, Option, Some, option_map, option_and_then, slice_index, if◌then◌else◌}
use Rattle.std.specs.Option.{option_map_or}
use Rattle.tpol_base.specs.declared.check.Check.{Check}
use Rattle.tpol_base.specs.declared.digest.Digest32.{Digest32}
use Rattle.tpol_base.specs.CommandCode.{number_of_code}
use Rattle.tpol_base.specs.Handle.{rs_pw}
use Rattle.tpol_base.specs.ResponseCode.{rc_auth_unavailable, rc_reference_s0, reference_of_handle}
use Rattle.tpol_wire.specs.declared.auth_area.AuthArea.{AuthArea}
use Rattle.tpol_wire.specs.declared.auth_area.ReplyAuth.{ReplyAuth}
use Rattle.tpol_wire.specs.declared.command.Command.{Command}
use Rattle.tpol_wire.specs.declared.reply.Reply.{Reply}
use Rattle.tpol_wire.specs.Commands.{code_of_command}
use Rattle.tpm_auth.specs.SessionMacs.{reply_mac}
use Rattle.tpm_bindings.specs.declared.last_auth.LastAuth.{LastAuth}
use Rattle.tpm_bindings.specs.declared.last_auth.LastAuth.TheVariants.{AuthValue, Neither, Password}
use Rattle.tpm_bindings.specs.Facts.{every_cp_hash, last_auth}
use Rattle.tpm_bindings.specs.State.{SessionState}
use Rattle.tpm_rules.specs.declared.checks.Use.{Use}
use Rattle.tpm_rules.specs.declared.outcome.Denial.{Denial}
use Rattle.tpm_rules.specs.declared.outcome.Denial.TheVariants as denials
use Rattle.tpm_rules.specs.AuthValue.{Field, proves}
use Rattle.tpm_rules.specs.Checks.{code_of_check, first_broken_check}
use Rattle.tpm_rules.specs.Entity.{Entity, auth_policy_of, auth_value_of, is_duplicate, is_policy_available, written_state}
use Rattle.tpm_rules.specs.Password.{password_denial, unavailable_password_code, wrong_password_code}
use Rattle.tpm_rules.specs.Rule.{or_else, unless}
use Rattle.tpm_session.specs.Slots.{state_at}
use Rattle.tpm_world.specs.Entities.{entity_at}
use Rattle.tpol_wire.specs.Handles.{area_of, handles_of}
use Rattle.tpol_wire.specs.Hashes.{rp_hash}
use Rattle.tpm_world.specs.Hashes.{cp_hash, name_hash, nonce_of_event}
use Rattle.tpm_engine.specs.declared.stop.Stop.{Stop}
use Rattle.tpm_engine.specs.Stops.{authorizing_session, denies, refuses}
use Rattle.tpm_engine.specs.Tables.{TableState}

-- the code of a command as a number
abbrev pub number_of_command : Command → ℕ
number_of_command command = number_of_code (code_of_command command)

-- the handle that is authorized, the first, and the entity that it stands for
abbrev pub authorized_handle : Command → ℕ
authorized_handle command = slice_index (handles_of command) 0

abbrev pub authorized_entity : TableState → Command → Option Entity
authorized_entity tables command = entity_at tables.world (authorized_handle command)

-- the state of the session that is to authorize a command
abbrev pub authorizing_state : TableState → Command → Option SessionState
authorizing_state tables command = option_and_then (state_at tables.sessions) (authorizing_session command)

-- ---- passwords

-- the code of a password's denial; it is one of the first two
abbrev pub password_code : Entity → ℕ → Denial → ℕ
password_code entity code denials.Unavailable = unavailable_password_code code
password_code entity code denials.Password = wrong_password_code entity
password_code entity code (denials.Deferred check) = code_of_check check

abbrev pub password_stop : Entity → ℕ → List ℕ → Option Stop
password_stop entity code given =
    option_map (λ denial. denies denial (password_code entity code denial)) (password_denial entity code given)

-- ---- policy sessions

-- what a command uses its authorizing session for, on this entity
abbrev pub occasion_of : TableState → ℕ → Command → Entity → Use
occasion_of tables locality command entity = record {
  code = number_of_command command;
  duplicate_role = is_duplicate (number_of_command command);
  cp_hash = cp_hash tables.world command;
  name_hash = name_hash tables.world command;
  locality = locality;
  presence = tables.world.presence;
  time = tables.world.time;
  pcr_counter = tables.world.pcrs.counter;
  written = written_state entity;
}

-- the field hmac of its area, with what an HMAC is made over
abbrev pub field_of : TableState → Command → AuthArea → SessionState → Field
field_of tables command area state = record {
  hmac = area.hmac;
  cp_hash = cp_hash tables.world command;
  nonce_caller = area.nonce;
  nonce_tpm = state.nonce;
  attributes = area.attributes;
}

-- that the checks of the session don't tell this digest from the command's cpHash
pub record PassesForCpHash (tables : TableState) (command : Command) (area : AuthArea) (state : SessionState) (digest : Digest32) : Type 0 where
  pub set : every_cp_hash state.facts digest ≡ every_cp_hash state.facts (cp_hash tables.world command)
  pub proved : (value : List ℕ) (last : LastAuth)
      → proves (record (field_of tables command area state) { cp_hash = digest }) value last ≡ proves (field_of tables command area state) value last

-- the first deferred check that the use breaks
abbrev pub broken_check : TableState → ℕ → Command → AuthArea → Entity → SessionState → Option Check
broken_check tables locality command area entity state =
    first_broken_check state (occasion_of tables locality command entity) (auth_policy_of entity)
    (proves (field_of tables command area state) (auth_value_of entity))

abbrev pub check_stop : Check → Stop
check_stop check = denies (denials.Deferred check) (code_of_check check)

abbrev pub policy_stop : TableState → ℕ → Command → AuthArea → Entity → SessionState → Option Stop
policy_stop tables locality command area entity state =
    or_else (unless (is_policy_available entity (number_of_command command)) (denies denials.Unavailable rc_auth_unavailable))
    (option_map check_stop (broken_check tables locality command area entity state))

-- ---- one or the other

-- that an area authorizes the command on this entity
abbrev pub entity_stop : TableState → ℕ → Command → AuthArea → Entity → Option Stop
entity_stop tables locality command area entity =
    if area.session == rs_pw then password_stop entity (number_of_command command) area.hmac
    else option_map_or (policy_stop tables locality command area entity) (state_at tables.sessions area.session) (Some (refuses rc_reference_s0))

-- that an area authorizes the command on the entity of its first handle
abbrev pub area_stop : TableState → ℕ → Command → AuthArea → Option Stop
area_stop tables locality command area =
    option_map_or (entity_stop tables locality command area) (authorized_entity tables command) (Some (refuses (reference_of_handle 1)))

-- that the command is authorized, where it has to be
abbrev pub authorization_stop : TableState → ℕ → Command → Option Stop
authorization_stop tables locality command = option_and_then (area_stop tables locality command) (area_of command)

-- ---- the reply's area

-- the key of a session's HMACs: the authorization value after PolicyAuthValue, else it is empty
abbrev pub hmac_key : LastAuth → List ℕ → List ℕ
hmac_key AuthValue value = value
hmac_key Neither value = []
hmac_key Password value = []

-- the field hmac of the reply: empty after PolicyPassword, and where key and command field were both empty;
-- `given` is that field
abbrev pub reply_hmac : LastAuth → List ℕ → List ℕ → (List ℕ → Digest32) → List ℕ
reply_hmac Password value given mac = []
reply_hmac auth value given mac =
    if length (hmac_key auth value) == 0 && length given == 0 then [] else (mac (hmac_key auth value)).bytes

-- the reply's area in answer to a password
abbrev pub password_area : ReplyAuth
password_area = record { nonce = []; attributes = 1; hmac = [] }

-- the reply's area in answer to a policy session: the new nonce, and the command's attributes
abbrev pub session_area : TableState → ℕ → Command → Reply → AuthArea → Entity → SessionState → ReplyAuth
session_area tables number command reply area entity state = record {
  nonce = (nonce_of_event tables.world.seed number).bytes;
  attributes = area.attributes;
  hmac = reply_hmac (last_auth state.facts) (auth_value_of entity) area.hmac
      (λ key. reply_mac key (rp_hash (number_of_command command) reply) (nonce_of_event tables.world.seed number) area.nonce area.attributes);
}

-- the area of a reply that succeeds, none where the command has none
abbrev pub reply_area : TableState → ℕ → Command → Reply → AuthArea → Option ReplyAuth
reply_area tables number command reply area =
    if area.session == rs_pw then Some password_area
    else option_and_then
    (λ entity. option_map (session_area tables number command reply area entity) (state_at tables.sessions area.session))
    (authorized_entity tables command)

abbrev pub reply_auth : TableState → ℕ → Command → Reply → Option ReplyAuth
reply_auth tables number command reply = option_and_then (reply_area tables number command reply) (area_of command)

-- The use of a policy session, told by the journal: when a command asks for one, when the session authorizes
-- it, and when it is served (TPM 2.0 Part 1, "Policy Session Use").
use Rattle.std.specs.Prelude.{◌≡◌, ◌≢◌, ℕ, ◌||◌, ◌==◌, Bool, true, false, List, [], ◌∷◌, Option, Some, None, Result, Ok, Err, option_map, if◌then◌else◌, ⊤}
use Rattle.std.specs.Option.{option_map_or}
use Rattle.tpol_base.specs.declared.check.Check.{Check}
use Rattle.tpol_name.specs.declared.setup.Setup.{Setup}
use Rattle.tpol_tree.specs.declared.closed.Assertion.TheVariants.{Pcr}
use Rattle.tpol_tree.specs.declared.facts.Fact.{Fact}
use Rattle.tpol_tree.specs.declared.path.Move.{Move}
use Rattle.tpol_tree.specs.declared.path.Move.TheVariants.{Assert}
use Rattle.tpol_wire.specs.declared.auth_area.AuthArea.{AuthArea}
use Rattle.tpol_wire.specs.declared.command.Command.{Command}
use Rattle.tpol_wire.specs.Reading.{reading}
use Rattle.tpm_bindings.specs.Facts.{has_pcr}
use Rattle.tpm_pcr.specs.Bank.{Bank}
use Rattle.tpm_pcr.specs.Pcrs.{selection_digest}
use Rattle.tpm_rules.specs.declared.outcome.Denial.TheVariants.{Deferred}
use Rattle.tpm_rules.specs.declared.outcome.Outcome.{Outcome}
use Rattle.tpm_rules.specs.declared.outcome.Outcome.TheVariants.{Denied}
use Rattle.tpm_rules.specs.Entity.{Entity, is_policy_available}
use Rattle.tpm_session.specs.Slots.{is_live}
use Rattle.tpol_wire.specs.Handles.{area_of, policy_session_of}
use Rattle.tpm_engine.specs.declared.event.Event.{Event}
use Rattle.tpm_engine.specs.Answers.{own_rule}
use Rattle.tpm_engine.specs.Authorization.{authorized_entity, broken_check, number_of_command}
use Rattle.tpm_engine.specs.Deeds.{Deed, Extends, Resets, Restarts, SessionUse, Starts, deed_of, use_of}
use Rattle.tpm_engine.specs.Stops.{authorizing_session, handles_stop, room_stop}
use Rattle.tpm_engine.specs.Views.{facts_of, session_state, view_of}

-- ---- PCRs since the first PolicyPCR

-- whether a PCR_Extend was served after the first PolicyPCR among a session's facts
abbrev pub changed_after : Deed → ℕ → List Fact → Bool → Bool
changed_after (Starts started) session facts changed = if started == session then false else changed
changed_after (Restarts restarted) session facts changed = if restarted == session then false else changed
changed_after (Extends pcr digest) session facts changed = changed || has_pcr facts
changed_after Resets session facts changed = false
changed_after _ session facts changed = changed

abbrev pub changed_used : Option SessionUse → ℕ → Bool → Bool
changed_used None session changed = changed
changed_used (Some served) session changed = if served.session == session then false else changed

unfoldable pub are_pcrs_changed : Setup → List Event → ℕ → Bool
are_pcrs_changed setup [] session = false
are_pcrs_changed setup (event ∷ past) session =
    changed_used (use_of event) session
    (changed_after (deed_of event) session (facts_of setup past session) (are_pcrs_changed setup past session))

-- ---- a command that asks for a policy session

-- whether a policy session may authorize the command for the entity of its first handle
abbrev pub is_available : Setup → List Event → Command → Bool
is_available setup past command =
    option_map_or (λ entity. is_policy_available entity (number_of_command command)) (authorized_entity (view_of setup past) command) false

-- the bytes spell a command that is to be authorized by this session: its handles are there, the session is live and
-- is not the command's own policy session, and a policy session may authorize the command
pub record AsksPolicySession (setup : Setup) (past : List Event) (buffer : List ℕ) (command : Command) (session : ℕ) : Type 0 where
  pub reads : reading buffer ≡ Ok command
  pub authorizing : authorizing_session command ≡ Some session
  pub handles : handles_stop (view_of setup past) command ≡ None
  pub live : is_live (view_of setup past).sessions session ≡ true
  pub other : option_map (λ own. own.0) (policy_session_of command) ≢ Some session
  pub available : is_available setup past command ≡ true

-- the first deferred check that is broken behind that of PCRs
abbrev pub broken_behind : Setup → List Event → ℕ → Command → AuthArea → Entity → ℕ → Option Check
broken_behind setup past locality command area entity session =
    broken_check (view_of setup past) locality command area entity (record (session_state setup past session) { counter = None })

-- the session authorizes the command: all ten deferred checks hold, that of PCRs in the journal's words
pub record Passes (setup : Setup) (past : List Event) (locality : ℕ) (command : Command) (session : ℕ) : Type 0 where
  pub pcrs : are_pcrs_changed setup past session ≡ false
  pub others : (area : AuthArea) (entity : Entity) → area_of command ≡ Some area → authorized_entity (view_of setup past) command ≡ Some entity
      → broken_behind setup past locality command area entity session ≡ None

-- the command is served: the session authorizes it, its own policy session has room, and none of its own rules
-- is broken
pub record IsServed (setup : Setup) (past : List Event) (locality : ℕ) (command : Command) (session : ℕ) : Type 0 where
  pub passes : Passes setup past locality command session
  pub room : room_stop (view_of setup past) command ≡ None
  pub rules : own_rule (view_of setup past) command ≡ None

-- an outcome that is no denial by a deferred check
abbrev pub IsNotDeniedByCheck : Outcome → Type 0
IsNotDeniedByCheck (Denied (Deferred check)) = ⊥
IsNotDeniedByCheck _ = ⊤

-- the bytes spell a command that is served through a policy session
pub record IsServedBySession (setup : Setup) (past : List Event) (locality : ℕ) (buffer : List ℕ) : Type 0 where
  pub command : Command
  pub session : ℕ
  pub asks : AsksPolicySession setup past buffer command session
  pub served : IsServed setup past locality command session

-- ---- what is opened

-- the session that is to authorize the command that bytes spell
abbrev pub session_in : Result Command ℕ → Option ℕ
session_in (Ok command) = authorizing_session command
session_in (Err code) = None

-- the digest of a PolicyPCR is that of these PCRs
abbrev pub IsOfPcrs : Bank → Move → Type 0
IsOfPcrs pcrs (Assert (Pcr mask digest values)) = digest ≡ selection_digest pcrs.values mask
IsOfPcrs pcrs _ = ⊤

abbrev pub AreOfPcrs : Bank → List Fact → Type 0
AreOfPcrs pcrs [] = ⊤
AreOfPcrs pcrs (fact ∷ rest) = IsOfPcrs pcrs fact.act × AreOfPcrs pcrs rest

-- Commands that the machine carries out: none of the rules before their own stops them.
use Rattle.std.proofs.Common.{◌≡◌, ◌<◌, ℕ, ◌+◌, Bool, true, false, [], ◌∷◌, length, nat_lt, refl, ap, sym, ◌∙◌, arith}
use Rattle.std.specs.Prelude.{Option, Some, None, is_some, option_map, slice_index, if◌then◌else◌}
use Rattle.std.specs.Option.{option_and_then, option_map_or}
use Rattle.std.proofs.lemmas.Bool.Decides.{nat_tests}
use Rattle.std.proofs.lemmas.Option.{none-some}
use Rattle.tpol_base.specs.declared.handle.HandleKind.{HandleKind}
use Rattle.tpol_base.specs.declared.handle.HandleKind.TheVariants as kinds
use Rattle.tpol_base.specs.Handle.{is_index, is_policy_session, kind_of_handle}
use Rattle.tpol_base.specs.ResponseCode.{of_handle, rc_handle, rc_reference_h0, rc_reference_s0, rc_session_memory, reference_of_handle}
use Rattle.tpol_driver.specs.Commands.{password_area}
use Rattle.tpol_goal.specs.declared.grants.Grants.{Grants}
use Rattle.tpol_goal.specs.Grants.{secret_of}
use Rattle.tpol_name.specs.declared.entries.IndexEntry.{IndexEntry}
use Rattle.tpol_name.specs.declared.entries.ObjectEntry.{ObjectEntry}
use Rattle.tpol_wire.specs.declared.auth_area.AuthArea.{AuthArea}
use Rattle.tpol_wire.specs.declared.command.Command.{Command}
use Rattle.tpm_bindings.specs.State.{SessionState}
use Rattle.tpm_nv.specs.Indices.{index_of}
use Rattle.tpm_rules.specs.Entity.{Entity, Index, Object}
use Rattle.tpm_rules.specs.Password.{password_denial}
use Rattle.tpm_rules.specs.Rule.{or_else, unless}
use Rattle.tpm_session.specs.Slots.{IsSlotHandle, is_live, state_at}
use Rattle.tpm_world.specs.Entities.{entity_at, entity_of_kind, handle_rule, handle_rule_of_kind}
use Rattle.tpol_wire.specs.Handles.{area_of, handles_of, policy_session_of}
use Rattle.tpm_world.specs.Objects.{object_of}
use Rattle.tpm_world.specs.World.{WorldState}
use Rattle.tpm_engine.specs.declared.stop.Stop.{Stop}
use Rattle.tpm_engine.specs.Answers.{first_stop, own_rule}
use Rattle.tpm_engine.specs.Authorization.{area_stop, authorization_stop, entity_stop, number_of_command, password_stop}
use Rattle.tpm_engine.specs.PolicyCommands.{policy_rule}
use Rattle.tpm_engine.specs.Stops.{apart_stop, handle_stop, handles_from, handles_stop, has_room, refuses, room_stop, session_of_area, session_stop}
use Rattle.tpm_engine.specs.Tables.{TableState}
use Rattle.tpol_laws.proofs.Fit.{session-handle}
use Rattle.tpol_laws.proofs.Own.{own-is-policy}

-- ---- handles

pub session-there : (tables : TableState) (n own : ℕ) (kept : SessionState) → IsSlotHandle own → state_at tables.sessions own ≡ Some kept → handle_stop tables n own ≡ None
session-there tables n own kept slot live =
    ap (λ b. if b then unless (is_live tables.sessions own) (refuses (reference_of_handle n)) else option_map refuses (handle_rule tables.world n own)) (session-handle own slot).kind
    ∙ ap (λ (o : Option SessionState). unless (is_some o) (refuses (reference_of_handle n))) live

-- what may be authorized is no session
session-kind : (handle : ℕ) → is_policy_session handle ≡ true → kind_of_handle handle ≡ Some kinds.PolicySession
session-kind handle session =
    let pcr : nat_lt handle 24 ≡ false = grind (arith, nat_tests, session) in
    let index : is_index handle ≡ false = grind (arith, nat_tests, session) in
    rw (pcr, index, session) refl

index-is : (o : Option IndexEntry) (entity : Entity) (code : ℕ) → option_map Index o ≡ Some entity → unless (is_some o) code ≡ None
index-is None entity code h = absurd (none-some entity h)
index-is (Some entry) entity code h = refl

object-is : (o : Option ObjectEntry) (entity : Entity) (code : ℕ) → option_map Object o ≡ Some entity → unless (is_some o) code ≡ None
object-is None entity code h = absurd (none-some entity h)
object-is (Some object) entity code h = refl

kind-there : (world : WorldState) (n handle : ℕ) (kind : Option HandleKind) (entity : Entity) → entity_of_kind world handle kind ≡ Some entity → handle_rule_of_kind world n handle kind ≡ None
kind-there world n handle (Some kinds.Index) entity h = index-is (index_of handle world.indices) entity (rc_handle + of_handle n) h
kind-there world n handle (Some kinds.Object) entity h = object-is (object_of handle world.objects) entity (reference_of_handle n) h
kind-there world n handle (Some kinds.Pcr) entity h = refl
kind-there world n handle (Some kinds.PolicySession) entity h = refl
kind-there world n handle (Some kinds.Permanent) entity h = refl
kind-there world n handle None entity h = refl

pub entity-there : (tables : TableState) (n handle : ℕ) (entity : Entity) → entity_at tables.world handle ≡ Some entity → handle_stop tables n handle ≡ None
entity-there tables n handle entity h = at (is_policy_session handle) refl
  where
    at : (b : Bool) → is_policy_session handle ≡ b → (if b then unless (is_live tables.sessions handle) (refuses (reference_of_handle n)) else option_map refuses (handle_rule tables.world n handle)) ≡ None
    at true e = absurd (none-some entity (sym (ap (entity_of_kind tables.world handle) (session-kind handle e)) ∙ h))
    at false e = ap (option_map refuses) (kind-there tables.world n handle (kind_of_handle handle) entity h)

-- ---- authorization by a password

-- it is stopped where the password is denied
pub password-stopped : (tables : TableState) (locality : ℕ) (command : Command) (grants : Grants) (handle : ℕ) (entity : Entity)
    → area_of command ≡ Some (password_area grants handle) → slice_index (handles_of command) 0 ≡ handle → entity_at tables.world handle ≡ Some entity
    → authorization_stop tables locality command ≡ password_stop entity (number_of_command command) (secret_of grants.secrets handle)
password-stopped tables locality command grants handle entity has first there =
    ap (option_and_then (area_stop tables locality command)) has
    ∙ ap (λ (h : ℕ). option_map_or (entity_stop tables locality command (password_area grants handle)) (entity_at tables.world h) (Some (refuses (reference_of_handle 1)))) first
    ∙ ap (λ (o : Option Entity). option_map_or (entity_stop tables locality command (password_area grants handle)) o (Some (refuses (reference_of_handle 1)))) there

pub password-passes : (tables : TableState) (locality : ℕ) (command : Command) (grants : Grants) (handle : ℕ) (entity : Entity)
    → area_of command ≡ Some (password_area grants handle) → slice_index (handles_of command) 0 ≡ handle → entity_at tables.world handle ≡ Some entity
    → password_denial entity (number_of_command command) (secret_of grants.secrets handle) ≡ None
    → authorization_stop tables locality command ≡ None
password-passes tables locality command grants handle entity has first there none =
    password-stopped tables locality command grants handle entity has first there ∙ ap (option_map _) none

-- a command without an area has no authorizing session
pub no-session : (tables : TableState) (command : Command) → area_of command ≡ None → session_stop tables command ≡ None
no-session tables command area =
    ap (λ (a : Option AuthArea). option_and_then (λ session. or_else (unless (is_live tables.sessions session) (refuses rc_reference_s0)) (apart_stop (policy_session_of command) session)) (option_and_then session_of_area a)) area

-- ---- all together

pub unstopped : (tables : TableState) (locality : ℕ) (command : Command) → handles_stop tables command ≡ None → session_stop tables command ≡ None → authorization_stop tables locality command ≡ None → room_stop tables command ≡ None
    → own_rule tables command ≡ None → first_stop tables locality command ≡ None
unstopped tables locality command handles session authorization room own =
    λ i. or_else (or_else (handles i) (or_else (session i) (or_else (authorization i) (room i)))) (option_map refuses (own i))

-- the own rule of a policy command is that of its session, which is live
pub own-rule-on : (tables : TableState) (own : ℕ) (kept : SessionState) → state_at tables.sessions own ≡ Some kept → (command : Command) (place : ℕ) → policy_session_of command ≡ Some (own, place)
    → own_rule tables command ≡ policy_rule tables.world kept command
own-rule-on tables own kept live command place is =
    own-is-policy tables command (ap is_some is)
    ∙ ap (option_and_then (λ (p : ℕ × ℕ). option_map_or (λ state. policy_rule tables.world state command) (state_at tables.sessions p.0) (Some rc_reference_h0))) is
    ∙ ap (λ (o : Option SessionState). option_map_or (λ state. policy_rule tables.world state command) o (Some rc_reference_h0)) live

-- a policy command on a live session with room
module _ (tables : TableState) (locality own : ℕ) (kept : SessionState) (live : state_at tables.sessions own ≡ Some kept) (few : length kept.facts < 512) where
  room-there : (command : Command) (place : ℕ) → policy_session_of command ≡ Some (own, place) → room_stop tables command ≡ None
  room-there command place is =
      ap (option_and_then (λ (p : ℕ × ℕ). option_and_then has_room (state_at tables.sessions p.0))) is
      ∙ ap (option_and_then has_room) live
      ∙ ap (λ b. unless b (refuses rc_session_memory)) below
    where
      below : nat_lt (length kept.facts) 512 ≡ true
      below = grind (arith, nat_tests, few)

  own-there : (command : Command) (place : ℕ) → policy_session_of command ≡ Some (own, place) → policy_rule tables.world kept command ≡ None → own_rule tables command ≡ None
  own-there command place is rule =
      own-rule-on tables own kept live command place is ∙ rule

  pub policy-unstopped : (command : Command) (place : ℕ) → policy_session_of command ≡ Some (own, place) → handles_stop tables command ≡ None → session_stop tables command ≡ None → authorization_stop tables locality command ≡ None
      → policy_rule tables.world kept command ≡ None → first_stop tables locality command ≡ None
  policy-unstopped command place is handles session authorization rule =
      unstopped tables locality command handles session authorization (room-there command place is) (own-there command place is rule)

  -- that has its session for its one handle, and no authorization
  pub plain-unstopped : IsSlotHandle own → (command : Command) → policy_session_of command ≡ Some (own, 1) → handles_of command ≡ own ∷ [] → area_of command ≡ None
      → policy_rule tables.world kept command ≡ None → first_stop tables locality command ≡ None
  plain-unstopped slot command is handles area rule =
      policy-unstopped command 1 is
      (ap (handles_from tables 1) handles ∙ ap (λ (s : Option Stop). or_else s None) (session-there tables 1 own kept slot live))
      (no-session tables command area)
      (ap (option_and_then (area_stop tables locality command)) area)
      rule

-- Chains of stops: what holds where none stands, and what becomes of a command.
use Rattle.std.proofs.Common.{◌≡◌, ◌↔◌, ℕ, Bool, true, false, Option, None, Some, IfSome, is_some, nat_eq, nat_lt, if◌then◌else◌, refl, ap, sym, subst, ◌∙◌, length}
use Rattle.std.specs.Option.{option_and_then, option_map, option_map_or}
use Rattle.std.proofs.lemmas.Bool.{false≢true}
use Rattle.std.proofs.lemmas.Option.{none-some, same_Some}
use Rattle.tpol_base.specs.declared.check.Check.{Check}
use Rattle.tpol_base.specs.Handle.{rs_pw}
use Rattle.tpol_base.specs.ResponseCode.{rc_reference_s0, rc_session_memory, reference_of_handle}
use Rattle.tpol_wire.specs.declared.auth_area.AuthArea.{AuthArea}
use Rattle.tpol_wire.specs.declared.command.Command.{Command}
use Rattle.tpm_bindings.specs.State.{SessionState}
use Rattle.tpm_rules.specs.declared.outcome.Outcome.TheVariants.{Served}
use Rattle.tpm_rules.specs.Entity.{Entity, is_policy_available}
use Rattle.tpm_rules.specs.Rule.{or_else, unless}
use Rattle.tpm_session.specs.Slots.{is_live, state_at}
use Rattle.tpol_wire.specs.Handles.{area_of, policy_session_of}
use Rattle.tpm_engine.specs.declared.stop.Stop.{Stop}
use Rattle.tpm_engine.specs.Answers.{answer_unless, first_stop, own_rule, success_of}
use Rattle.tpm_engine.specs.Authorization.{area_stop, authorization_stop, authorized_entity, broken_check, check_stop, entity_stop, number_of_command, password_stop, policy_stop}
use Rattle.tpm_engine.specs.Events.{Answered, is_served}
use Rattle.tpm_engine.specs.Stops.{apart_stop, authorizing_session, handles_stop, refuses, room_stop, session_of_area, session_stop}
use Rattle.tpm_engine.specs.Tables.{TableState}
use Rattle.tpm_engine.specs.Uses.{IsNotDeniedByCheck}

-- ---- chains

pub or_else-none : {A : Type 0} (first rest : Option A) → or_else first rest ≡ None → (first ≡ None) × (rest ≡ None)
or_else-none None rest h = (refl, h)
or_else-none (Some broken) rest h = absurd (none-some broken (sym h))

pub unless-none : {A : Type 0} (test : Bool) (broken : A) → unless test broken ≡ None → test ≡ true
unless-none true broken h = refl
unless-none false broken h = absurd (none-some broken (sym h))

pub map-none : {A B : Type 0} (f : A → B) (o : Option A) → option_map f o ≡ None → o ≡ None
map-none f None h = refl
map-none f (Some x) h = absurd (none-some (f x) (sym h))

-- what is there, as a value
pub record Found {A : Type 0} (o : Option A) : Type 0 where
  pub value : A
  pub is : o ≡ Some value

pub found : {A : Type 0} (o : Option A) → is_some o ≡ true → Found o
found None h = absurd (false≢true h)
found (Some x) h = record { value = x; is = refl }

-- a look-up through another is there where both are
pub record Through {A B : Type 0} (f : A → Option B) (o : Option A) (y : B) : Type 0 where
  pub value : A
  pub is : o ≡ Some value
  pub gives : f value ≡ Some y

pub through : {A B : Type 0} (f : A → Option B) (o : Option A) (y : B) → option_and_then f o ≡ Some y → Through f o y
through f None y h = absurd (none-some y h)
through f (Some x) y h = record { value = x; is = refl; gives = h }

-- ---- the area of a policy session

pub area-session : (area : AuthArea) (session : ℕ) → session_of_area area ≡ Some session → (nat_eq area.session rs_pw ≡ false) × (area.session ≡ session)
area-session area session h = at (nat_eq area.session rs_pw) refl h
  where
    at : (b : Bool) → nat_eq area.session rs_pw ≡ b → (if b then None else Some area.session) ≡ Some session → (nat_eq area.session rs_pw ≡ false) × (area.session ≡ session)
    at true e h = absurd (none-some session h)
    at false e h = (e, same_Some _ _ h)

-- ---- a command that asks for a policy session

-- what is there where it does
pub record Asked (tables : TableState) (command : Command) (session : ℕ) : Type 0 where
  pub area : AuthArea
  pub entity : Entity
  pub state : SessionState
  pub has_area : area_of command ≡ Some area
  pub is_session : session_of_area area ≡ Some session
  pub has_entity : authorized_entity tables command ≡ Some entity
  pub has_state : state_at tables.sessions session ≡ Some state
  pub available : is_policy_available entity (number_of_command command) ≡ true
  pub apart : apart_stop (policy_session_of command) session ≡ None
  pub handles : handles_stop tables command ≡ None

-- the first of the checks, of room and of the command's own rules
abbrev pub judged : Option Check → Option Stop → Option ℕ → Option Stop
judged broken room own = or_else (or_else (option_map check_stop broken) room) (option_map refuses own)

module _ (tables : TableState) (locality : ℕ) (command : Command) (session : ℕ) where
  pub session-asked : (asked : Asked tables command session) → authorizing_session command ≡ Some session
  session-asked asked = ap (option_and_then session_of_area) asked.has_area ∙ asked.is_session

  session-none : (asked : Asked tables command session) → session_stop tables command ≡ None
  session-none asked =
      ap (option_and_then (λ s. or_else (unless (is_live tables.sessions s) (refuses rc_reference_s0)) (apart_stop (policy_session_of command) s))) (session-asked asked)
      ∙ (ap (λ b. or_else (unless b (refuses rc_reference_s0)) (apart_stop (policy_session_of command) session)) (ap is_some asked.has_state)
      ∙ asked.apart)

  pub authorization-asked : (asked : Asked tables command session)
      → authorization_stop tables locality command ≡ option_map check_stop (broken_check tables locality command asked.area asked.entity asked.state)
  authorization-asked asked =
      let is = area-session asked.area session asked.is_session in
      ap (option_and_then (area_stop tables locality command)) asked.has_area
      ∙ (ap (λ entity. option_map_or (entity_stop tables locality command asked.area) entity (Some (refuses (reference_of_handle 1)))) asked.has_entity
      ∙ (ap (λ b. if b then password_stop asked.entity (number_of_command command) asked.area.hmac
      else option_map_or (policy_stop tables locality command asked.area asked.entity) (state_at tables.sessions asked.area.session) (Some (refuses rc_reference_s0))) is.0
      ∙ (ap (λ s. option_map_or (policy_stop tables locality command asked.area asked.entity) (state_at tables.sessions s) (Some (refuses rc_reference_s0))) is.1
      ∙ (ap (λ state. option_map_or (policy_stop tables locality command asked.area asked.entity) state (Some (refuses rc_reference_s0))) asked.has_state
      ∙ policy-available asked))))
    where
      policy-available : (asked : Asked tables command session)
          → policy_stop tables locality command asked.area asked.entity asked.state ≡ option_map check_stop (broken_check tables locality command asked.area asked.entity asked.state)
      policy-available asked = rw asked.available refl

  pub first-asked : (asked : Asked tables command session)
      → first_stop tables locality command
      ≡ judged (broken_check tables locality command asked.area asked.entity asked.state) (room_stop tables command) (own_rule tables command)
  first-asked asked =
      ap (λ early. or_else early (option_map refuses (own_rule tables command)))
      (ap (λ h. or_else h (or_else (session_stop tables command) (or_else (authorization_stop tables locality command) (room_stop tables command)))) asked.handles
      ∙ (ap (λ s. or_else s (or_else (authorization_stop tables locality command) (room_stop tables command))) (session-none asked)
      ∙ ap (λ a. or_else a (room_stop tables command)) (authorization-asked asked)))

-- ---- outcomes

-- the one stop of room
pub room-kind : (tables : TableState) (command : Command) → IfSome (room_stop tables command) (λ stop. stop ≡ refuses rc_session_memory)
room-kind tables command = own (policy_session_of command)
  where
    room : (b : Bool) → IfSome (unless b (refuses rc_session_memory)) (λ stop. stop ≡ refuses rc_session_memory)
    room true = tt
    room false = refl

    state : (o : Option SessionState) → IfSome (option_and_then (λ (s : SessionState). unless (nat_lt (length s.facts) 512) (refuses rc_session_memory)) o) (λ stop. stop ≡ refuses rc_session_memory)
    state None = tt
    state (Some s) = room (nat_lt (length s.facts) 512)

    own : (o : Option (ℕ × ℕ)) → IfSome (option_and_then (λ (p : ℕ × ℕ). option_and_then (λ (s : SessionState). unless (nat_lt (length s.facts) 512) (refuses rc_session_memory)) (state_at tables.sessions p.0)) o) (λ stop. stop ≡ refuses rc_session_memory)
    own None = tt
    own (Some p) = state (state_at tables.sessions p.0)

pub success-asked : (tables : TableState) (command : Command) (session : ℕ) (asked : Asked tables command session) → success_of command ≡ Served
success-asked tables command session asked = rw asked.has_area refl

pub authorizes-judged : (broken : Option Check) (room : Option Stop) (own : Option ℕ) (answered : Answered)
    → IfSome room (λ stop. stop ≡ refuses rc_session_memory) → answered.outcome ≡ Served
    → IsNotDeniedByCheck (answer_unless (judged broken room own) answered).outcome ↔ (broken ≡ None)
authorizes-judged (Some check) room own answered kind served = (λ h. absurd h, λ h. absurd (none-some check (sym h)))
authorizes-judged None (Some stop) own answered kind served = (λ h. refl, λ h. subst (λ (s : Stop). IsNotDeniedByCheck s.outcome) (sym kind) tt)
authorizes-judged None None (Some code) answered kind served = (λ h. refl, λ h. tt)
authorizes-judged None None None answered kind served = (λ h. refl, λ h. subst IsNotDeniedByCheck (sym served) tt)

pub serves-judged : (broken : Option Check) (room : Option Stop) (own : Option ℕ) (answered : Answered)
    → IfSome room (λ stop. stop ≡ refuses rc_session_memory) → answered.outcome ≡ Served
    → ((answer_unless (judged broken room own) answered).outcome ≡ Served) ↔ ((broken ≡ None) × ((room ≡ None) × (own ≡ None)))
serves-judged (Some check) room own answered kind served = (λ h. absurd (false≢true (ap is_served h)), λ h. absurd (none-some check (sym h.0)))
serves-judged None (Some stop) own answered kind served =
    (λ h. absurd (false≢true (ap (λ (s : Stop). is_served s.outcome) (sym kind) ∙ ap is_served h)), λ h. absurd (none-some stop (sym h.1.0)))
serves-judged None None (Some code) answered kind served = (λ h. absurd (false≢true (ap is_served h)), λ h. absurd (none-some code (sym h.1.1)))
serves-judged None None None answered kind served = (λ h. (refl, (refl, refl)), λ h. served)

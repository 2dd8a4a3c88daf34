-- When a policy session authorizes a command, when the command is served, and what is opened then.
use Rattle.std.proofs.Common.{◌≡◌, ◌↔◌, ◌≢◌, ℕ, ◌+◌, ⊎_elim, Bool, not, true, false, List, Option, None, Some, Ok, nat_eq, refl, ap, sym, subst, ◌∙◌, arith}
use Rattle.std.specs.Option.{option_map, option_map_or}
use Rattle.std.specs.Str.{bytes_eq}
use Rattle.std.proofs.lemmas.Bool.{cases_eq, false≢true}
use Rattle.std.proofs.lemmas.Bool.Decides.{nat_tests}
use Rattle.std.proofs.lemmas.Option.{none-some, same_Some}
use Rattle.std.proofs.lemmas.Slice.Eq.{bytes_eq-Decides}
use Rattle.tpol_base.specs.declared.check.Check.{Check}
use Rattle.tpol_base.specs.declared.check.Check.TheVariants.{AuthValue, Expired, PcrChanged, PolicyFail}
use Rattle.tpol_base.specs.ResponseCode.{of_handle, rc_value}
use Rattle.tpol_name.specs.declared.setup.Setup.{Setup}
use Rattle.tpol_wire.specs.declared.auth_area.AuthArea.{AuthArea}
use Rattle.tpol_wire.specs.declared.command.Command.{Command}
use Rattle.tpol_wire.specs.Reading.{reading}
use Rattle.tpm_bindings.specs.Facts.{is_in_time, last_auth}
use Rattle.tpm_bindings.specs.State.{SessionState}
use Rattle.tpm_rules.specs.declared.outcome.Outcome.TheVariants.{Served}
use Rattle.tpm_rules.specs.AuthValue.{proves}
use Rattle.tpm_rules.specs.Checks.{broken_command, broken_hashes, broken_surroundings}
use Rattle.tpm_rules.specs.Entity.{Entity, auth_policy_of, auth_value_of, is_policy_available}
use Rattle.tpm_rules.specs.Rule.{or_else, unless}
use Rattle.tpm_rules.specs.Session.{is_counter_now, policy_digest_of}
use Rattle.tpm_session.specs.Slots.{state_at}
use Rattle.tpol_wire.specs.Handles.{area_of, policy_session_of}
use Rattle.tpm_engine.specs.declared.event.Event.{Event}
use Rattle.tpm_engine.specs.Answers.{answer, answer_to_reading, answer_unless, own_rule, succeeding}
use Rattle.tpm_engine.specs.Authorization.{authorized_entity, broken_check, field_of, number_of_command, occasion_of}
use Rattle.tpm_engine.specs.Events.{Answered}
use Rattle.tpm_engine.specs.Legal.{answer_to}
use Rattle.tpm_engine.specs.Stops.{apart_stop, refuses, room_stop, session_of_area}
use Rattle.tpm_engine.specs.Tables.{TableState}
use Rattle.tpm_engine.specs.Uses.{AsksPolicySession, IsNotDeniedByCheck, IsServed, Passes, are_pcrs_changed, broken_behind}
use Rattle.tpm_engine.specs.Views.{next_number, session_state, view_of, world_at}
use Rattle.tpm_engine.proofs.Lookups.{live-view}
use Rattle.tpm_engine.proofs.PcrsChanged.{counter-tells}
use Rattle.tpm_engine.proofs.Stopping.{Asked, Found, authorizes-judged, first-asked, found, judged, or_else-none, room-kind, serves-judged, success-asked, through, unless-none}

-- ---- from the journal's words to what is there

apart-other : (own : Option (ℕ × ℕ)) (session : ℕ) → option_map (λ (p : ℕ × ℕ). p.0) own ≢ Some session → apart_stop own session ≡ None
apart-other None session other = refl
apart-other (Some own) session other =
    ⊎_elim (λ same. absurd (other (ap Some same)))
    (λ away. at (nat_eq own.0 session) refl away)
    (cases_eq own.0 session)
  where
    at : (b : Bool) → nat_eq own.0 session ≡ b → own.0 ≢ session → unless (not b) (refuses (rc_value + of_handle own.1)) ≡ None
    at true e away = absurd (away (grind (arith, nat_tests)))
    at false e away = refl

pub other-apart : (own : Option (ℕ × ℕ)) (session : ℕ) → apart_stop own session ≡ None → option_map (λ (p : ℕ × ℕ). p.0) own ≢ Some session
other-apart None session apart same = absurd (none-some session same)
other-apart (Some own) session apart same =
    let equal : own.0 ≡ session = same_Some _ _ same in
    let e : nat_eq own.0 session ≡ true = grind (arith, nat_tests) in
    false≢true (ap not (sym e) ∙ unless-none (not (nat_eq own.0 session)) (refuses (rc_value + of_handle own.1)) apart)

is-available : (command : Command) (found : Option Entity) → option_map_or (λ e. is_policy_available e (number_of_command command)) found false ≡ true → Found found
is-available command None h = absurd (false≢true h)
is-available command (Some entity) h = record { value = entity; is = refl }

-- ---- the check of PCRs, apart from the others

broken-split : (first second third : Option Check) (b : Bool)
    → (or_else (or_else (or_else (unless b PcrChanged) first) second) third ≡ None) ↔ ((b ≡ true) × (or_else (or_else first second) third ≡ None))
broken-split first second third true = (λ h. (refl, h), λ h. h.1)
broken-split first second third false = (λ h. absurd (none-some PcrChanged (sym h)), λ h. absurd (false≢true h.0))

abbrev digest_checks : TableState → Entity → SessionState → Option Check
digest_checks tables entity state =
    or_else (unless (bytes_eq (policy_digest_of state).bytes (auth_policy_of entity)) PolicyFail)
    (unless (is_in_time state.facts tables.world.time) Expired)

abbrev use_checks : TableState → ℕ → Command → Entity → SessionState → Option Check
use_checks tables locality command entity state =
    or_else (broken_command state (occasion_of tables locality command entity))
    (or_else (broken_surroundings state (occasion_of tables locality command entity))
    (broken_hashes state (occasion_of tables locality command entity)))

abbrev auth_check : TableState → Command → AuthArea → Entity → SessionState → Option Check
auth_check tables command area entity state =
    unless (proves (field_of tables command area state) (auth_value_of entity) (last_auth state.facts)) AuthValue

split-check : (tables : TableState) (locality : ℕ) (command : Command) (area : AuthArea) (entity : Entity) (state : SessionState)
    → (broken_check tables locality command area entity state ≡ None)
    ↔ ((is_counter_now state.counter tables.world.pcrs.counter ≡ true) × (broken_check tables locality command area entity (record state { counter = None }) ≡ None))
split-check tables locality command area entity state =
    broken-split (digest_checks tables entity state) (use_checks tables locality command entity state) (auth_check tables command area entity state)
    (is_counter_now state.counter tables.world.pcrs.counter)

-- where no check is broken, the policyDigest is the entity's authPolicy
pub digest-checked : (tables : TableState) (locality : ℕ) (command : Command) (area : AuthArea) (entity : Entity) (state : SessionState)
    → broken_check tables locality command area entity state ≡ None → (policy_digest_of state).bytes ≡ auth_policy_of entity
digest-checked tables locality command area entity state none =
    let behind = ((split-check tables locality command area entity state).0 none).1 in
    let before = (or_else-none (or_else (digest_checks tables entity state) (use_checks tables locality command entity state)) (auth_check tables command area entity state) behind).0 in
    let digest = (or_else-none (digest_checks tables entity state) (use_checks tables locality command entity state) before).0 in
    let same = (or_else-none (unless (bytes_eq (policy_digest_of state).bytes (auth_policy_of entity)) PolicyFail) (unless (is_in_time state.facts tables.world.time) Expired) digest).0 in
    (bytes_eq-Decides (policy_digest_of state).bytes (auth_policy_of entity)).0
    (unless-none (bytes_eq (policy_digest_of state).bytes (auth_policy_of entity)) PolicyFail same)

unchanged : (b : Bool) → not b ≡ true → b ≡ false
unchanged true h = absurd (false≢true h)
unchanged false h = refl

-- ---- a command that asks for a policy session

module _ (setup : Setup) (past : List Event) (locality : ℕ) (buffer : List ℕ) (command : Command) (session : ℕ) where
  pub asked-of : AsksPolicySession setup past buffer command session → Asked (view_of setup past) command session
  asked-of asks =
      let area = through session_of_area (area_of command) session asks.authorizing in
      let entity = is-available command (authorized_entity (view_of setup past) command) asks.available in
      let state = found (state_at (view_of setup past).sessions session) asks.live in
      record {
        area = area.value;
        entity = entity.value;
        state = state.value;
        has_area = area.is;
        is_session = area.gives;
        has_entity = entity.is;
        has_state = state.is;
        available = ap (λ e. option_map_or (λ (x : Entity). is_policy_available x (number_of_command command)) e false) (sym entity.is) ∙ asks.available;
        apart = apart-other (policy_session_of command) session asks.other;
        handles = asks.handles;
      }

  pub passes-broken : (asked : Asked (view_of setup past) command session)
      → Passes setup past locality command session ↔ (broken_check (view_of setup past) locality command asked.area asked.entity asked.state ≡ None)
  unfolding view_of world_at session_state
  passes-broken asked = (to, from)
    where
      same : asked.state ≡ session_state setup past session
      same = live-view setup past session asked.state asked.has_state

      counters : is_counter_now (session_state setup past session).counter (view_of setup past).world.pcrs.counter ≡ not (are_pcrs_changed setup past session)
      counters = counter-tells setup past session

      to : Passes setup past locality command session → broken_check (view_of setup past) locality command asked.area asked.entity asked.state ≡ None
      to passes =
          subst (λ state. broken_check (view_of setup past) locality command asked.area asked.entity state ≡ None) (sym same)
          ((split-check (view_of setup past) locality command asked.area asked.entity (session_state setup past session)).1
          (counters ∙ ap not passes.pcrs, passes.others asked.area asked.entity asked.has_area asked.has_entity))

      others : broken_behind setup past locality command asked.area asked.entity session ≡ None → (area : AuthArea) (entity : Entity) → area_of command ≡ Some area → authorized_entity (view_of setup past) command ≡ Some entity
          → broken_behind setup past locality command area entity session ≡ None
      others none area entity has_area has_entity =
          subst (λ a. broken_behind setup past locality command a entity session ≡ None) (same_Some _ _ (sym asked.has_area ∙ has_area))
          (subst (λ e. broken_behind setup past locality command asked.area e session ≡ None) (same_Some _ _ (sym asked.has_entity ∙ has_entity)) none)

      from : broken_check (view_of setup past) locality command asked.area asked.entity asked.state ≡ None → Passes setup past locality command session
      from none =
          let parts = (split-check (view_of setup past) locality command asked.area asked.entity (session_state setup past session)).0
          (subst (λ state. broken_check (view_of setup past) locality command asked.area asked.entity state ≡ None) same none) in
          record {
            pcrs = unchanged (are_pcrs_changed setup past session) (sym counters ∙ parts.0);
            others = others parts.1;
          }

  -- ---- the answer

  answer-asked : (asked : Asked (view_of setup past) command session) → reading buffer ≡ Ok command
      → answer_to setup past locality buffer
      ≡ answer_unless (judged (broken_check (view_of setup past) locality command asked.area asked.entity asked.state) (room_stop (view_of setup past) command) (own_rule (view_of setup past) command))
      (succeeding (view_of setup past) (next_number past) command)
  unfolding answer
  answer-asked asked reads =
      ap (answer_to_reading (view_of setup past) (next_number past) locality) reads
      ∙ ap (λ stop. answer_unless stop (succeeding (view_of setup past) (next_number past) command)) (first-asked (view_of setup past) locality command session asked)

  pub authorizes : AsksPolicySession setup past buffer command session
      → IsNotDeniedByCheck (answer_to setup past locality buffer).outcome ↔ Passes setup past locality command session
  authorizes asks =
      let asked = asked-of asks in
      let broken = broken_check (view_of setup past) locality command asked.area asked.entity asked.state in
      let room = room_stop (view_of setup past) command in
      let own = own_rule (view_of setup past) command in
      let judge = authorizes-judged broken room own (succeeding (view_of setup past) (next_number past) command) (room-kind (view_of setup past) command) (success-asked (view_of setup past) command session asked) in (
        λ h. (passes-broken asked).1 (judge.0 (subst (λ answered. IsNotDeniedByCheck answered.outcome) (answer-asked asked asks.reads) h)),
        λ passes. subst (λ answered. IsNotDeniedByCheck answered.outcome) (sym (answer-asked asked asks.reads)) (judge.1 ((passes-broken asked).0 passes)),
      )

  pub serves : AsksPolicySession setup past buffer command session
      → ((answer_to setup past locality buffer).outcome ≡ Served) ↔ IsServed setup past locality command session
  serves asks = (to, from)
    where
      asked : Asked (view_of setup past) command session
      asked = asked-of asks

      judge : ((answer_unless (judged (broken_check (view_of setup past) locality command asked.area asked.entity asked.state) (room_stop (view_of setup past) command) (own_rule (view_of setup past) command)) (succeeding (view_of setup past) (next_number past) command)).outcome ≡ Served)
          ↔ ((broken_check (view_of setup past) locality command asked.area asked.entity asked.state ≡ None) × ((room_stop (view_of setup past) command ≡ None) × (own_rule (view_of setup past) command ≡ None)))
      judge = serves-judged (broken_check (view_of setup past) locality command asked.area asked.entity asked.state) (room_stop (view_of setup past) command) (own_rule (view_of setup past) command)
          (succeeding (view_of setup past) (next_number past) command) (room-kind (view_of setup past) command) (success-asked (view_of setup past) command session asked)

      to : (answer_to setup past locality buffer).outcome ≡ Served → IsServed setup past locality command session
      to h =
          let parts = judge.0 (ap (λ (answered : Answered). answered.outcome) (sym (answer-asked asked asks.reads)) ∙ h) in
          record { passes = (passes-broken asked).1 parts.0; room = parts.1.0; rules = parts.1.1 }

      from : IsServed setup past locality command session → (answer_to setup past locality buffer).outcome ≡ Served
      from served =
          ap (λ (answered : Answered). answered.outcome) (answer-asked asked asks.reads)
          ∙ judge.1 ((passes-broken asked).0 served.passes, (served.room, served.rules))

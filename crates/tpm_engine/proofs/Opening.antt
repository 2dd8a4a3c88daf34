-- What a policy session opens: exactly where a command is served through one, and with what.
use Rattle.std.proofs.Common.{◌≡◌, ◌↔◌, ℕ, true, false, List, Option, None, Some, IsSome, is_some, Result, Ok, Err, if◌then◌else◌, refl, ap, sym, subst, ◌∙◌}
use Rattle.std.specs.Option.{option_and_then, option_map, option_map_or}
use Rattle.std.proofs.lemmas.Option.{none-some, same_Some}
use Rattle.tpol_base.specs.ResponseCode.{rc_auth_unavailable, rc_reference_s0, reference_of_handle}
use Rattle.tpol_digest.specs.Digest.{digest_of_moves}
use Rattle.tpol_name.specs.declared.setup.Setup.{Setup}
use Rattle.tpol_wire.specs.declared.auth_area.AuthArea.{AuthArea}
use Rattle.tpol_wire.specs.declared.command.Command.{Command}
use Rattle.tpol_wire.specs.Reading.{reading}
use Rattle.tpm_bindings.specs.Facts.{moves_of}
use Rattle.tpm_bindings.specs.State.{SessionState}
use Rattle.tpm_rules.specs.declared.outcome.Denial.TheVariants as denials
use Rattle.tpm_rules.specs.Entity.{Entity, auth_policy_of, is_policy_available}
use Rattle.tpm_rules.specs.Rule.{or_else, unless}
use Rattle.tpm_session.specs.Slots.{is_live, state_at}
use Rattle.tpm_world.specs.Entities.{entity_at}
use Rattle.tpol_wire.specs.Handles.{area_of, policy_session_of}
use Rattle.tpm_world.specs.World.{world_of}
use Rattle.tpm_engine.specs.declared.event.Event.{Event}
use Rattle.tpm_engine.specs.declared.opened.Opened.{Opened}
use Rattle.tpm_engine.specs.declared.stop.Stop.{Stop}
use Rattle.tpm_engine.specs.Answers.{early_stop, first_stop, opened_by_reading, opened_of, opened_unless, opening_of, own_rule}
use Rattle.tpm_engine.specs.Authorization.{area_stop, authorization_stop, authorized_entity, authorized_handle, authorizing_state, broken_check, check_stop, entity_stop, number_of_command, password_stop, policy_stop}
use Rattle.tpm_engine.specs.Legal.{opened_to}
use Rattle.tpm_engine.specs.Stops.{apart_stop, authorizing_session, denies, handles_stop, refuses, room_stop, session_of_area, session_stop}
use Rattle.tpm_engine.specs.Tables.{TableState}
use Rattle.tpm_engine.specs.Uses.{AreOfPcrs, AsksPolicySession, IsServed, IsServedBySession, session_in}
use Rattle.tpm_engine.specs.Views.{facts_of, pcrs_of, session_state, view_of, world_at}
use Rattle.tpm_engine.proofs.Headline.{asked-of, digest-checked, other-apart, passes-broken}
use Rattle.tpm_engine.proofs.Lookups.{live-view}
use Rattle.tpm_engine.proofs.PcrsChanged.{of-pcrs-by}
use Rattle.tpm_engine.proofs.Policies.{same-policy}
use Rattle.tpm_engine.proofs.Shown.{shows-pcrs}
use Rattle.tpm_engine.proofs.Stopping.{area-session, first-asked, found, judged, map-none, or_else-none, through, unless-none}

-- what there is where something is opened
pub record Opening (setup : Setup) (past : List Event) (locality : ℕ) (buffer : List ℕ) (opened : Opened) : Type 0 where
  pub command : Command
  pub session : ℕ
  pub asks : AsksPolicySession setup past buffer command session
  pub served : IsServed setup past locality command session
  pub state : SessionState
  pub has_state : state_at (view_of setup past).sessions session ≡ Some state
  pub entity : authorized_handle command ≡ opened.entity
  pub facts : state.facts ≡ opened.facts

-- ---- a command of which no stop stands

module _ (tables : TableState) (locality : ℕ) (command : Command) (session : ℕ) (area : AuthArea) (state : SessionState)
    (has_area : area_of command ≡ Some area) (is_session : session_of_area area ≡ Some session) (has_state : state_at tables.sessions session ≡ Some state) where
  -- its authorization, where its entity is there
  entity-stop : (entity : Entity) → entity_stop tables locality command area entity ≡ policy_stop tables locality command area entity state
  entity-stop entity =
      let is = area-session area session is_session in
      ap (λ b. if b then password_stop entity (number_of_command command) area.hmac
      else option_map_or (policy_stop tables locality command area entity) (state_at tables.sessions area.session) (Some (refuses rc_reference_s0))) is.0
      ∙ (ap (λ s. option_map_or (policy_stop tables locality command area entity) (state_at tables.sessions s) (Some (refuses rc_reference_s0))) is.1
      ∙ ap (λ found. option_map_or (policy_stop tables locality command area entity) found (Some (refuses rc_reference_s0))) has_state)

  -- a policy session is available for it
  available-by : (found : Option Entity) → option_map_or (entity_stop tables locality command area) found (Some (refuses (reference_of_handle 1))) ≡ None
      → option_map_or (λ (e : Entity). is_policy_available e (number_of_command command)) found false ≡ true
  available-by None none = absurd (none-some (refuses (reference_of_handle 1)) (sym none))
  available-by (Some entity) none =
      unless-none (is_policy_available entity (number_of_command command)) (denies denials.Unavailable rc_auth_unavailable)
      (or_else-none (unless (is_policy_available entity (number_of_command command)) (denies denials.Unavailable rc_auth_unavailable)) (option_map check_stop (broken_check tables locality command area entity state))
      (sym (entity-stop entity) ∙ none)).0

  pub available-none : authorization_stop tables locality command ≡ None
      → option_map_or (λ (e : Entity). is_policy_available e (number_of_command command)) (authorized_entity tables command) false ≡ true
  available-none none =
      available-by (authorized_entity tables command) (sym (ap (option_and_then (area_stop tables locality command)) has_area) ∙ none)

  -- it is another one than the command's policy session
  pub apart-none : session_stop tables command ≡ None → apart_stop (policy_session_of command) session ≡ None
  apart-none none =
      let asks : authorizing_session command ≡ Some session = ap (option_and_then session_of_area) has_area ∙ is_session in
      (or_else-none (unless (is_live tables.sessions session) (refuses rc_reference_s0)) (apart_stop (policy_session_of command) session)
      (sym (ap (option_and_then (λ s. or_else (unless (is_live tables.sessions s) (refuses rc_reference_s0)) (apart_stop (policy_session_of command) s))) asks) ∙ none)).1

-- ---- the four stops before the own rules

record FourNone (tables : TableState) (locality : ℕ) (command : Command) : Type 0 where
  handles : handles_stop tables command ≡ None
  session : session_stop tables command ≡ None
  authorization : authorization_stop tables locality command ≡ None

four-none : (tables : TableState) (locality : ℕ) (command : Command) → first_stop tables locality command ≡ None → FourNone tables locality command
four-none tables locality command none =
    let early = (or_else-none (early_stop tables locality command) (option_map refuses (own_rule tables command)) none).0 in
    let first = or_else-none (handles_stop tables command) (or_else (session_stop tables command) (or_else (authorization_stop tables locality command) (room_stop tables command))) early in
    let second = or_else-none (session_stop tables command) (or_else (authorization_stop tables locality command) (room_stop tables command)) first.1 in
    let third = or_else-none (authorization_stop tables locality command) (room_stop tables command) second.1 in
    record { handles = first.0; session = second.0; authorization = third.0 }

-- ---- from what is opened to what there is

record Mapped {A B : Type 0} (f : A → B) (o : Option A) (y : B) : Type 0 where
  value : A
  is : o ≡ Some value
  gives : f value ≡ y

mapped : {A B : Type 0} (f : A → B) (o : Option A) (y : B) → option_map f o ≡ Some y → Mapped f o y
mapped f None y h = absurd (none-some y h)
mapped f (Some x) y h = record { value = x; is = refl; gives = same_Some _ _ h }

abbrev opens : Command → SessionState → Opened
opens command state = record { entity = authorized_handle command; facts = state.facts }

module _ (setup : Setup) (past : List Event) (locality : ℕ) (buffer : List ℕ) where
  opened-command : (command : Command) (opened : Opened) → reading buffer ≡ Ok command → first_stop (view_of setup past) locality command ≡ None
      → opening_of (view_of setup past) command ≡ Some opened → Opening setup past locality buffer opened
  opened-command command opened reads none opening =
      let made = mapped (opens command) (authorizing_state (view_of setup past) command) opened opening in
      let session = through (state_at (view_of setup past).sessions) (authorizing_session command) made.value made.is in
      let area = through session_of_area (area_of command) session.value session.is in
      let four = four-none (view_of setup past) locality command none in
      let asks : AsksPolicySession setup past buffer command session.value = record {
        reads = reads;
        authorizing = session.is;
        handles = four.handles;
        live = ap is_some session.gives;
        other = other-apart (policy_session_of command) session.value
            (apart-none (view_of setup past) locality command session.value area.value made.value area.is area.gives session.gives four.session);
        available = available-none (view_of setup past) locality command session.value area.value made.value area.is area.gives session.gives four.authorization;
      } in
      let asked = asked-of setup past locality buffer command session.value asks in
      let broken = broken_check (view_of setup past) locality command asked.area asked.entity asked.state in
      let room = room_stop (view_of setup past) command in
      let own = own_rule (view_of setup past) command in
      let all = or_else-none (or_else (option_map check_stop broken) room) (option_map refuses own)
      (sym (first-asked (view_of setup past) locality command session.value asked) ∙ none) in
      let before = or_else-none (option_map check_stop broken) room all.0 in
      record {
        command = command;
        session = session.value;
        asks = asks;
        served = record {
          passes = (passes-broken setup past locality buffer command session.value asked).1 (map-none check_stop broken before.0);
          room = before.1;
          rules = map-none refuses own all.1;
        };
        state = made.value;
        has_state = session.gives;
        entity = ap (λ (o : Opened). o.entity) made.gives;
        facts = ap (λ (o : Opened). o.facts) made.gives;
      }

  pub opening-found : (opened : Opened) → opened_to setup past locality buffer ≡ Some opened → Opening setup past locality buffer opened
  unfolding opened_of
  opening-found opened h = at (reading buffer) refl h
    where
      stop : (command : Command) → reading buffer ≡ Ok command → (first : Option Stop) → first_stop (view_of setup past) locality command ≡ first
          → opened_unless first (opening_of (view_of setup past) command) ≡ Some opened → Opening setup past locality buffer opened
      stop command reads None none opening = opened-command command opened reads none opening
      stop command reads (Some first) none opening = absurd (none-some opened opening)

      at : (read : Result Command ℕ) → reading buffer ≡ read → opened_by_reading (view_of setup past) locality read ≡ Some opened → Opening setup past locality buffer opened
      at (Ok command) reads h = stop command reads (first_stop (view_of setup past) locality command) refl h
      at (Err code) reads h = absurd (none-some opened h)

  -- ---- and back

  served-opens : IsServedBySession setup past locality buffer → is_some (opened_to setup past locality buffer) ≡ true
  unfolding opened_of
  served-opens it =
      let asked = asked-of setup past locality buffer it.command it.session it.asks in
      let broken = broken_check (view_of setup past) locality it.command asked.area asked.entity asked.state in
      let room = room_stop (view_of setup past) it.command in
      let own = own_rule (view_of setup past) it.command in
      let none : first_stop (view_of setup past) locality it.command ≡ None =
      first-asked (view_of setup past) locality it.command it.session asked
      ∙ (ap (λ b. judged b room own) ((passes-broken setup past locality buffer it.command it.session asked).0 it.served.passes)
      ∙ (ap (λ r. judged None r own) it.served.room ∙ ap (λ o. judged None None o) it.served.rules)) in
      ap (λ read. is_some (opened_by_reading (view_of setup past) locality read)) it.asks.reads
      ∙ (ap (λ first. is_some (opened_unless first (opening_of (view_of setup past) it.command))) none
      ∙ ap (λ state. is_some (option_map (opens it.command) state))
      (ap (option_and_then (state_at (view_of setup past).sessions)) it.asks.authorizing ∙ asked.has_state))

  pub opens-served : IsSome (opened_to setup past locality buffer) ↔ IsServedBySession setup past locality buffer
  opens-served = (to, served-opens)
    where
      to : IsSome (opened_to setup past locality buffer) → IsServedBySession setup past locality buffer
      to h =
          let opened = found (opened_to setup past locality buffer) h in
          let it = opening-found opened.value opened.is in
          record { command = it.command; session = it.session; asks = it.asks; served = it.served }

  -- ---- what is opened

  pub opened-facts : (opened : Opened) → opened_to setup past locality buffer ≡ Some opened
      → option_map (facts_of setup past) (session_in (reading buffer)) ≡ Some opened.facts
  unfolding session_state
  opened-facts opened h =
      let it = opening-found opened h in
      ap (option_map (facts_of setup past)) (ap session_in it.asks.reads ∙ it.asks.authorizing)
      ∙ ap Some (sym (ap (λ (s : SessionState). s.facts) (live-view setup past it.session it.state it.has_state)) ∙ it.facts)

  pub opened-pcrs : (opened : Opened) → opened_to setup past locality buffer ≡ Some opened → AreOfPcrs (pcrs_of setup past) opened.facts
  unfolding session_state
  opened-pcrs opened h =
      let it = opening-found opened h in
      subst (AreOfPcrs (pcrs_of setup past)) (sym (ap (λ (s : SessionState). s.facts) (live-view setup past it.session it.state it.has_state)) ∙ it.facts)
      (of-pcrs-by shows-pcrs setup past it.session it.served.passes.pcrs)

  pub opened-policy : (opened : Opened) → opened_to setup past locality buffer ≡ Some opened
      → option_map auth_policy_of (entity_at (world_of setup) opened.entity) ≡ Some (digest_of_moves (moves_of opened.facts)).bytes
  unfolding view_of
  opened-policy opened h =
      let it = opening-found opened h in
      let asked = asked-of setup past locality buffer it.command it.session it.asks in
      let broken = (passes-broken setup past locality buffer it.command it.session asked).0 it.served.passes in
      let state : asked.state ≡ it.state = same_Some _ _ (sym asked.has_state ∙ it.has_state) in
      let digest : (digest_of_moves (moves_of opened.facts)).bytes ≡ auth_policy_of asked.entity =
      ap (λ facts. (digest_of_moves (moves_of facts)).bytes) (sym (ap (λ (s : SessionState). s.facts) state ∙ it.facts))
      ∙ digest-checked (view_of setup past) locality it.command asked.area asked.entity asked.state broken in
      sym (same-policy setup past opened.entity)
      ∙ (ap (option_map auth_policy_of) (ap (entity_at (world_at setup past)) (sym it.entity) ∙ asked.has_entity) ∙ ap Some (sym digest))

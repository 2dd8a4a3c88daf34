-- Legal events that did something: a command was read, and no stop stood.
use Rattle.std.proofs.Common.{◌≡◌, ℕ, ◌+◌, Bool, true, false, List, [], ◌∷◌, Option, None, Some, Result, Ok, Err, nat_eq, if◌then◌else◌, refl, ap, sym, ◌∙◌, ◌||◌, arith}
use Rattle.std.specs.List.{list_any}
use Rattle.std.specs.Option.{option_and_then, option_map}
use Rattle.std.proofs.lemmas.Bool.{false≢true}
use Rattle.std.proofs.lemmas.Bool.Decides.{nat_tests}
use Rattle.std.proofs.lemmas.Option.{none-some}
use Rattle.tpol_base.specs.Handle.{is_policy_session, rs_pw}
use Rattle.tpol_base.specs.ResponseCode.{rc_reference_s0, reference_of_handle}
use Rattle.tpol_name.specs.declared.setup.Setup.{Setup}
use Rattle.tpol_wire.specs.declared.auth_area.AuthArea.{AuthArea}
use Rattle.tpol_wire.specs.declared.command.Command.{Command}
use Rattle.tpol_wire.specs.Reading.{reading}
use Rattle.tpm_rules.specs.declared.outcome.Outcome.{Outcome}
use Rattle.tpm_rules.specs.declared.outcome.Outcome.TheVariants as outcomes
use Rattle.tpm_rules.specs.Rule.{or_else, unless}
use Rattle.tpm_session.specs.Slots.{is_live}
use Rattle.tpm_world.specs.Entities.{handle_rule}
use Rattle.tpol_wire.specs.Handles.{area_of, policy_session_of}
use Rattle.tpm_engine.specs.declared.event.Event.{Event}
use Rattle.tpm_engine.specs.declared.event.Event.TheVariants as events
use Rattle.tpm_engine.specs.declared.stop.Stop.{Stop}
use Rattle.tpm_engine.specs.Answers.{answer, answer_to_reading, answer_unless, early_stop, first_stop, own_rule, succeeding}
use Rattle.tpm_engine.specs.Authorization.{authorization_stop}
use Rattle.tpm_engine.specs.Deeds.{Deed, Idle, Passes, Resets, Shifts, SessionUse, area_use, command_deed, continues, deed_in, deed_of, use_in, use_of}
use Rattle.tpm_engine.specs.Events.{Answered, is_served, is_success}
use Rattle.tpm_engine.specs.Legal.{IsAnswered}
use Rattle.tpm_engine.specs.Stops.{apart_stop, authorizing_session, handle_stop, handles_from, handles_stop, refuses, room_stop, session_of_area, session_stop}
use Rattle.tpm_engine.specs.Tables.{TableState}
use Rattle.tpm_engine.specs.Views.{next_number, view_of}
use Rattle.tpm_engine.proofs.Serving.{Fails, first-fails}
use Rattle.tpm_engine.proofs.Stopping.{or_else-none, unless-none}

-- ---- legal events that succeeded

-- where an answer is a success no stop stands
pub none-stopped : (first : Option Stop) (answered : Answered) → Fails first → is_success (answer_unless first answered).outcome ≡ true → first ≡ None
none-stopped None answered fails success = refl
none-stopped (Some stop) answered fails success = absurd (false≢true (sym fails ∙ success))

pub first-none : (setup : Setup) (past : List Event) (client locality : ℕ) (buffer reply : List ℕ) (outcome : Outcome) (command : Command)
    → IsAnswered setup past (events.Command client locality buffer reply outcome) → is_success outcome ≡ true → reading buffer ≡ Ok command
    → first_stop (view_of setup past) locality command ≡ None
unfolding answer
first-none setup past client locality buffer reply outcome command answered success reads =
    none-stopped (first_stop (view_of setup past) locality command) (succeeding (view_of setup past) (next_number past) command)
    (first-fails (view_of setup past) locality command)
    (ap (λ read. is_success (answer_to_reading (view_of setup past) (next_number past) locality read).outcome) (sym reads)
    ∙ (ap (λ (a : Answered). is_success a.outcome) answered ∙ success))

-- a command that was carried out, as an event
pub record CarriedOut (setup : Setup) (past : List Event) (event : Event) : Type 0 where
  pub locality : ℕ
  pub reply : List ℕ
  pub command : Command
  pub first : first_stop (view_of setup past) locality command ≡ None
  pub deed : deed_of event ≡ command_deed command reply
  pub served : Bool
  pub uses : use_of event ≡ (if served then area_use (area_of command) else None)

-- an event whose deed tells something, in a word that tells nothing of the surroundings, is one
module _ (setup : Setup) (past : List Event) (word : Deed → Option ℕ) (session : ℕ)
    (idle : word Idle ≡ None) (passes : (ms : ℕ) → word (Passes ms) ≡ None) (shifts : (on : Bool) → word (Shifts on) ≡ None) (resets : word Resets ≡ None) where
  told : (o : Option ℕ) → o ≡ None → o ≡ Some session → ⊥
  told o none some = none-some session (sym none ∙ some)

  pub carried-out : (event : Event) → IsAnswered setup past event → word (deed_of event) ≡ Some session → CarriedOut setup past event
  carried-out (events.Command client locality buffer reply outcome) answered tells = at (is_success outcome) refl (reading buffer) refl tells
    where
      at : (b : Bool) → is_success outcome ≡ b → (read : Result Command ℕ) → reading buffer ≡ read
          → word (if b then deed_in read reply else Idle) ≡ Some session → CarriedOut setup past (events.Command client locality buffer reply outcome)
      at true success (Ok command) reads tells = record {
        locality = locality;
        reply = reply;
        command = command;
        first = first-none setup past client locality buffer reply outcome command answered success reads;
        deed = ap (λ b. if b then deed_in (reading buffer) reply else Idle) success ∙ ap (λ read. deed_in read reply) reads;
        served = is_served outcome;
        uses = ap (λ read. if is_served outcome then use_in read else None) reads;
      }
      at true success (Err code) reads tells = absurd (told (word Idle) idle tells)
      at false success read reads tells = absurd (told (word Idle) idle tells)
  carried-out (events.Time ms) answered tells = absurd (told (word (Passes ms)) (passes ms) tells)
  carried-out (events.Presence on) answered tells = absurd (told (word (Shifts on)) (shifts on) tells)
  carried-out events.Reset answered tells = absurd (told (word Resets) resets tells)

-- ---- handles and sessions that are live

-- each of the handles is there
pub handles-there : (tables : TableState) (n : ℕ) (handles : List ℕ) (session : ℕ) → is_policy_session session ≡ true
    → handles_from tables n handles ≡ None → list_any (nat_eq session) handles ≡ true → is_live tables.sessions session ≡ true
handles-there tables n [] session kind none among = absurd (false≢true among)
handles-there tables n (handle ∷ rest) session kind none among =
    at (nat_eq session handle) refl among (handles-there tables (n + 1) rest session kind parts.1)
  where
    parts : (handle_stop tables n handle ≡ None) × (handles_from tables (n + 1) rest ≡ None)
    parts = or_else-none (handle_stop tables n handle) (handles_from tables (n + 1) rest) none

    live : session ≡ handle → is_live tables.sessions session ≡ true
    live same =
        unless-none (is_live tables.sessions session) (refuses (reference_of_handle n))
        (ap (λ b. if b then unless (is_live tables.sessions session) (refuses (reference_of_handle n)) else option_map refuses (handle_rule tables.world n session)) (sym kind)
        ∙ (ap (handle_stop tables n) same ∙ parts.0))

    at : (b : Bool) → nat_eq session handle ≡ b → (b || list_any (nat_eq session) rest) ≡ true → (list_any (nat_eq session) rest ≡ true → is_live tables.sessions session ≡ true)
        → is_live tables.sessions session ≡ true
    at true e among later = live (grind (arith, nat_tests))
    at false e among later = later among

-- whether a use is of the session
abbrev pub used_by : ℕ → Option SessionUse → Bool
used_by session None = false
used_by session (Some served) = nat_eq served.session session

-- a session that a command uses is live
module _ (setup : Setup) (past : List Event) (session : ℕ) where
  session-live : (command : Command) → session_stop (view_of setup past) command ≡ None → authorizing_session command ≡ Some session
      → is_live (view_of setup past).sessions session ≡ true
  session-live command none asks =
      unless-none (is_live (view_of setup past).sessions session) (refuses rc_reference_s0)
      (or_else-none (unless (is_live (view_of setup past).sessions session) (refuses rc_reference_s0)) (apart_stop (policy_session_of command) session)
      (sym (ap (option_and_then (λ s. or_else (unless (is_live (view_of setup past).sessions s) (refuses rc_reference_s0)) (apart_stop (policy_session_of command) s))) asks) ∙ none)).0

  used-area : (area : Option AuthArea) → used_by session (area_use area) ≡ true → option_and_then session_of_area area ≡ Some session
  used-area None h = absurd (false≢true h)
  used-area (Some area) h = at (nat_eq area.session rs_pw) refl h
    where
      at : (b : Bool) → nat_eq area.session rs_pw ≡ b → used_by session (if b then None else Some (record { session = area.session; keep = continues area.attributes })) ≡ true
          → (if b then None else Some area.session) ≡ Some session
      at true e h = absurd (false≢true h)
      at false e h = ap Some (grind (arith, nat_tests))

  pub used-live : (event : Event) → IsAnswered setup past event → used_by session (use_of event) ≡ true → is_live (view_of setup past).sessions session ≡ true
  used-live (events.Command client locality buffer reply outcome) answered h = at (is_served outcome) refl (reading buffer) refl h
    where
      success : (o : Outcome) → is_served o ≡ true → is_success o ≡ true
      success outcomes.Accepted h = refl
      success outcomes.Served h = refl
      success (outcomes.Denied denial) h = h
      success (outcomes.Refused rc) h = h

      at : (b : Bool) → is_served outcome ≡ b → (read : Result Command ℕ) → reading buffer ≡ read → used_by session (if b then use_in read else None) ≡ true
          → is_live (view_of setup past).sessions session ≡ true
      at true served (Ok command) reads h =
          let first = first-none setup past client locality buffer reply outcome command answered (success outcome served) reads in
          let early = (or_else-none (early_stop (view_of setup past) locality command) (option_map refuses (own_rule (view_of setup past) command)) first).0 in
          let behind = (or_else-none (handles_stop (view_of setup past) command) (or_else (session_stop (view_of setup past) command) (or_else (authorization_stop (view_of setup past) locality command) (room_stop (view_of setup past) command))) early).1 in
          session-live command (or_else-none (session_stop (view_of setup past) command) (or_else (authorization_stop (view_of setup past) locality command) (room_stop (view_of setup past) command)) behind).0
          (used-area (area_of command) h)
      at true served (Err code) reads h = absurd (false≢true h)
      at false served read reads h = absurd (false≢true h)
  used-live (events.Time ms) answered h = absurd (false≢true h)
  used-live (events.Presence on) answered h = absurd (false≢true h)
  used-live events.Reset answered h = absurd (false≢true h)

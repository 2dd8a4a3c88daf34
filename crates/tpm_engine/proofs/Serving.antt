-- From what a command's parts do to its response.
use Rattle.std.proofs.Common.{◌≡◌, ◌≢◌, ℕ, ◌+◌, ◌%◌, Bool, not, true, false, List, [], ◌∷◌, length, Option, None, Some, IfSome, is_some, Ok, nat_eq, nat_lt, if◌then◌else◌, refl, ap, sym, subst, ◌∙◌, arith}
use Rattle.std.specs.Option.{option_and_then, option_map, option_map_or}
use Rattle.std.proofs.lemmas.Bool.{false≢true}
use Rattle.std.proofs.lemmas.Bool.Decides.{nat_tests}
use Rattle.std.proofs.lemmas.Option.{none-some, same_Some}
use Rattle.tpol_base.specs.Handle.{is_policy_session, rs_pw}
use Rattle.tpol_base.specs.ResponseCode.{of_handle, rc_auth_unavailable, rc_reference_s0, rc_session_memory, rc_value, reference_of_handle}
use Rattle.tpol_wire.specs.declared.auth_area.AuthArea.{AuthArea}
use Rattle.tpol_wire.specs.declared.command.Command.{Command}
use Rattle.tpol_wire.specs.declared.command.Command.TheVariants as commands
use Rattle.tpol_wire.specs.Reading.{reading}
use Rattle.tpm_bindings.specs.State.{SessionState}
use Rattle.tpm_session.specs.Slots.{changed_at, is_live, state_at}
use Rattle.tpm_session.proofs.Slots.{content-other}
use Rattle.tpm_rules.specs.declared.outcome.Outcome.{Outcome}
use Rattle.tpm_rules.specs.declared.outcome.Outcome.TheVariants.{Accepted, Denied, Refused, Served}
use Rattle.tpm_rules.specs.declared.outcome.Denial.TheVariants.{Unavailable}
use Rattle.tpm_rules.specs.Entity.{Entity, is_policy_available}
use Rattle.tpm_rules.specs.Password.{password_denial}
use Rattle.tpm_rules.specs.Rule.{or_else, unless}
use Rattle.tpm_world.specs.Entities.{handle_rule}
use Rattle.tpol_wire.specs.Handles.{area_of, handles_of, policy_session_of}
use Rattle.tpm_engine.specs.declared.closing_use.Closing.{Closing}
use Rattle.tpm_engine.specs.declared.opened.Opened.{Opened}
use Rattle.tpm_engine.specs.declared.prepared.Prepared.{Prepared}
use Rattle.tpm_engine.specs.declared.stop.Stop.{Stop}
use Rattle.tpm_engine.specs.declared.success.Success.{Success}
use Rattle.tpm_engine.specs.Answers.{answer_to_command, answer_unless, early_stop, first_stop, opened_by_command, opened_unless, opening_of, own_rule, stopped, succeeding, success_of}
use Rattle.tpm_engine.specs.Authorization.{area_stop, authorization_stop, authorized_entity, authorized_handle, broken_check, check_stop, entity_stop, number_of_command, password_code, password_stop, policy_stop}
use Rattle.tpm_engine.specs.Closings.{closing_of, closing_of_area, opened_by, opened_by_one, use_of_closing}
use Rattle.tpm_engine.specs.Deeds.{after_deed, after_event, after_use, area_use, command_deed, deed_in, use_in, Idle}
use Rattle.tpm_engine.specs.Events.{Answered, event_of, is_served, is_success}
use Rattle.tpm_engine.specs.Responses.{IsPrepared, IsReady, after_command, after_ready, after_success, opened_by_ready}
use Rattle.tpm_engine.specs.Stops.{apart_stop, authorizing_session, denies, handle_stop, handles_from, handles_stop, has_room, refuses, room_stop, session_of_area, session_stop}
use Rattle.tpm_engine.specs.Tables.{TableState}
use Rattle.tpm_engine.proofs.Stopping.{map-none, or_else-none, unless-none}

-- ---- the use of a policy session

pub closing-use : (command : Command) → option_map use_of_closing (closing_of command) ≡ area_use (area_of command)
closing-use command = at (area_of command)
  where
    session : (b : Bool) (area : AuthArea)
        → option_map use_of_closing (if b then None else Some (record { session = area.session; keep = nat_eq (area.attributes % 2) 1; entity = authorized_handle command; facts = [] }))
        ≡ (if b then None else Some (record { session = area.session; keep = nat_eq (area.attributes % 2) 1 }))
    session true area = refl
    session false area = refl

    at : (o : Option AuthArea) → option_map use_of_closing (option_and_then (closing_of_area command) o) ≡ area_use o
    at None = refl
    at (Some area) = session (nat_eq area.session rs_pw) area

pub closing-opens : (tables : TableState) (command : Command) → opened_by tables (closing_of command) ≡ opening_of tables command
closing-opens tables command = at (area_of command)
  where
    session : (b : Bool) (area : AuthArea)
        → option_and_then (opened_by_one tables) (if b then None else Some (record { session = area.session; keep = nat_eq (area.attributes % 2) 1; entity = authorized_handle command; facts = [] }))
        ≡ option_map (λ state. record { entity = authorized_handle command; facts = state.facts }) (option_and_then (state_at tables.sessions) (if b then None else Some area.session))
    session true area = refl
    session false area = refl

    at : (o : Option AuthArea)
        → option_and_then (opened_by_one tables) (option_and_then (closing_of_area command) o)
        ≡ option_map (λ state. record { entity = authorized_handle command; facts = state.facts }) (option_and_then (state_at tables.sessions) (option_and_then session_of_area o))
    at None = refl
    at (Some area) = session (nat_eq area.session rs_pw) area

-- what is to be closed is the command's authorizing session, with no facts yet
pub record IsClosing (command : Command) (closing : Closing) : Type 0 where
  pub session : authorizing_session command ≡ Some closing.session
  pub empty : closing.facts ≡ []

pub closing-is : (command : Command) (closing : Closing) → closing_of command ≡ Some closing → IsClosing command closing
closing-is command closing h = at (area_of command) refl h
  where
    session : (b : Bool) (area : AuthArea)
        → (if b then None else Some (record { session = area.session; keep = nat_eq (area.attributes % 2) 1; entity = authorized_handle command; facts = [] })) ≡ Some closing
        → ((if b then None else Some area.session) ≡ Some closing.session) × (closing.facts ≡ [])
    session true area h = absurd (none-some closing h)
    session false area h =
        let same = same_Some _ _ h in
        (ap (λ (c : Closing). Some c.session) same, ap (λ (c : Closing). c.facts) (sym same))

    at : (o : Option AuthArea) → area_of command ≡ o → option_and_then (closing_of_area command) o ≡ Some closing → IsClosing command closing
    at None e h = absurd (none-some closing h)
    at (Some area) e h =
        let both = session (nat_eq area.session rs_pw) area h in
        record { session = ap (option_and_then session_of_area) e ∙ both.0; empty = both.1 }

-- ---- the authorizing session stays as it is while the command is carried out

-- it is live, and not the command's policy session
pub record IsApart (tables : TableState) (command : Command) (session : ℕ) : Type 0 where
  pub live : is_live tables.sessions session ≡ true
  pub apart : apart_stop (policy_session_of command) session ≡ None

pub authorizing-apart : (tables : TableState) (command : Command) (session : ℕ) → session_stop tables command ≡ None → authorizing_session command ≡ Some session → IsApart tables command session
authorizing-apart tables command session none is =
    let both = or_else-none _ _
    (sym (ap (option_and_then (λ s. or_else (unless (is_live tables.sessions s) (refuses rc_reference_s0)) (apart_stop (policy_session_of command) s))) is) ∙ none) in
    record { live = unless-none _ _ both.0; apart = both.1 }

not-true : (b : Bool) → not b ≡ true → b ≡ false
not-true true h = absurd (false≢true h)
not-true false h = refl

other-session : (own session position : ℕ) → apart_stop (Some (own, position)) session ≡ None → session ≢ own
other-session own session position none same =
    let differs : nat_eq own session ≡ false = not-true _ (unless-none _ _ none) in
    absurd (false≢true (sym differs ∙ equal same))
  where
    equal : session ≡ own → nat_eq own session ≡ true
    equal same = grind (arith, nat_tests, same)

changed-other : (slots : List (Option SessionState)) (own session position : ℕ) (change : SessionState → SessionState)
    → apart_stop (Some (own, position)) session ≡ None → state_at (changed_at slots own change) session ≡ state_at slots session
changed-other slots own session position change none =
    content-other slots own session (option_map change (state_at slots own)) (other-session own session position none)

pub session-stays : (tables : TableState) (number : ℕ) (command : Command) (reply : List ℕ) (session : ℕ) → authorizing_session command ≡ Some session
    → apart_stop (policy_session_of command) session ≡ None → state_at (after_deed number (command_deed command reply) tables).sessions session ≡ state_at tables.sessions session
session-stays tables number (commands.PcrExtend pcr auth digest) reply session is apart = refl
session-stays tables number (commands.Unseal object auth) reply session is apart = refl
session-stays tables number (commands.Hmac key auth buffer hash) reply session is apart = refl
session-stays tables number (commands.NvRead authority index auth size offset) reply session is apart = refl
session-stays tables number (commands.NvWrite authority index auth bytes offset) reply session is apart = refl
session-stays tables number (commands.NvIncrement authority index auth) reply session is apart = refl
session-stays tables number (commands.Duplicate object parent auth) reply session is apart = refl
session-stays tables number (commands.PolicyNv authority index own auth operand offset operation) reply session is apart = changed-other tables.sessions own session 3 _ apart
session-stays tables number (commands.PolicySecret entity own auth nonce cp_hash policy_ref expiration) reply session is apart = changed-other tables.sessions own session 2 _ apart
session-stays tables number (commands.PolicyAuthorizeNv authority index own auth) reply session is apart = changed-other tables.sessions own session 3 _ apart
session-stays tables number _ reply session is apart = absurd (none-some session is)

-- what is to be closed is live after the command was carried out, and its facts are to be empty
pub closing-live : (before after : TableState) (number : ℕ) (command : Command) (reply : List ℕ) → session_stop before command ≡ None
    → after ≡ after_deed number (command_deed command reply) before
    → IfSome (closing_of command) (λ closing. is_live after.sessions closing.session ≡ true)
closing-live before after number command reply none carried = at (closing_of command) refl
  where
    at : (o : Option Closing) → closing_of command ≡ o → IfSome o (λ closing. is_live after.sessions closing.session ≡ true)
    at None e = tt
    at (Some closing) e =
        let is = closing-is command closing e in
        let apart = authorizing-apart before command closing.session none is.session in
        ap (λ (t : TableState). is_live t.sessions closing.session) carried
        ∙ (ap is_some (session-stays before number command reply closing.session is.session apart.apart) ∙ apart.live)

pub closing-empty : (command : Command) → IfSome (closing_of command) (λ closing. closing.facts ≡ [])
closing-empty command = at (closing_of command) refl
  where
    at : (o : Option Closing) → closing_of command ≡ o → IfSome o (λ closing. closing.facts ≡ [])
    at None e = tt
    at (Some closing) e = (closing-is command closing e).empty

-- what it opens is what it opened before
pub opened-before : (before after : TableState) (number : ℕ) (command : Command) (reply : List ℕ) → session_stop before command ≡ None
    → after ≡ after_deed number (command_deed command reply) before
    → opened_by after (closing_of command) ≡ opening_of before command
opened-before before after number command reply none carried = at (closing_of command) refl ∙ closing-opens before command
  where
    at : (o : Option Closing) → closing_of command ≡ o → opened_by after o ≡ opened_by before o
    at None e = refl
    at (Some closing) e =
        let is = closing-is command closing e in
        let apart = authorizing-apart before command closing.session none is.session in
        ap (λ (t : TableState). opened_by_one t closing) carried
        ∙ ap (λ (state : Option SessionState). option_map (λ s. record { entity = closing.entity; facts = s.facts }) state)
        (session-stays before number command reply closing.session is.session apart.apart)

-- ---- the response

-- nothing is ready without a success
none-ready : (tables : TableState) (command : Command) (success : Option Success) → success ≡ None → IfSome success (IsReady tables command)
none-ready tables command success none = subst (λ (o : Option Success). IfSome o (IsReady tables command)) (sym none) tt

-- a command that is stopped changes nothing
pub stopped-response : (tables : TableState) (number : ℕ) (command : Command) (done : Prepared) (stop : Stop) (answered : Answered) (opened : Option Opened)
    → answered ≡ stopped stop → opened ≡ None → is_success stop.outcome ≡ false
    → done.reply ≡ (stopped stop).reply → done.outcome ≡ stop.outcome → done.success ≡ None
    → IsPrepared tables number command answered opened done
stopped-response tables number command done stop answered opened is none fails reply outcome nothing = record {
  reply = reply ∙ ap (λ (a : Answered). a.reply) (sym is);
  outcome = outcome ∙ ap (λ (a : Answered). a.outcome) (sym is);
  ready = none-ready tables command done.success nothing;
  tables =
      ap (after_ready tables number (Ok command)) nothing
      ∙ sym (ap (after_command tables number command) is ∙ ap (λ b. if b then after_success tables number command (stopped stop).reply else tables) fails);
  opens = ap (opened_by_ready tables (Ok command)) nothing ∙ sym none;
}

pub success-is : (command : Command) → is_success (success_of command) ≡ true
success-is command = elim (is_some (area_of command)) as (λ b. is_success (if b then Served else Accepted) ≡ true) [ true ↦ refl | false ↦ refl ]

-- a command that succeeds
pub ready-response : (tables : TableState) (number : ℕ) (command : Command) (done : Prepared) (success : Success) → done.success ≡ Some success → IsReady tables command success
    → done.reply ≡ (succeeding tables number command).reply → done.outcome ≡ success_of command
    → IsPrepared tables number command (succeeding tables number command) (opening_of tables command) done
ready-response tables number command done success is ready reply outcome = record {
  reply = reply;
  outcome = outcome;
  ready = subst (λ (o : Option Success). IfSome o (IsReady tables command)) (sym is) ready;
  tables =
      ap (after_ready tables number (Ok command)) is
      ∙ sym (ap (λ b. if b then after_success tables number command (succeeding tables number command).reply else tables) (success-is command));
  opens = ap (opened_by_ready tables (Ok command)) is;
}

-- the tables after it was carried out, and its use closed
pub after-closing : (tables mid after : TableState) (number : ℕ) (command : Command)
    → mid ≡ after_deed number (command_deed command (succeeding tables number command).reply) tables
    → after ≡ after_use number (option_map use_of_closing (closing_of command)) mid
    → after ≡ after_success tables number command (succeeding tables number command).reply
after-closing tables mid after number command carried closed =
    closed ∙ (ap (after_use number (option_map use_of_closing (closing_of command))) carried
    ∙ ap (λ used. after_use number used (after_deed number (command_deed command (succeeding tables number command).reply) tables)) (closing-use command))

-- ---- from the first stop to the answer

-- where no rule stops a command it has the answer of its success
pub none-stops : (tables : TableState) (number locality : ℕ) (command : Command) (done : Prepared) → first_stop tables locality command ≡ None
    → IsPrepared tables number command (succeeding tables number command) (opening_of tables command) done
    → IsPrepared tables number command (answer_to_command tables number locality command) (opened_by_command tables locality command) done
none-stops tables number locality command done none response =
    subst (λ (stop : Option Stop). IsPrepared tables number command (answer_unless stop (succeeding tables number command)) (opened_unless stop (opening_of tables command)) done)
    (sym none) response

-- what holds where all rules do
pub record AreKept (tables : TableState) (command : Command) : Type 0 where
  pub session : session_stop tables command ≡ None
  pub room : room_stop tables command ≡ None
  pub own : own_rule tables command ≡ None

pub are-kept : (tables : TableState) (locality : ℕ) (command : Command) → first_stop tables locality command ≡ None → AreKept tables command
are-kept tables locality command none =
    let both = or_else-none (early_stop tables locality command) _ none in
    let later = or_else-none (session_stop tables command) _ (or_else-none (handles_stop tables command) _ both.0).1 in
    record {
      session = later.0;
      room = (or_else-none (authorization_stop tables locality command) (room_stop tables command) later.1).1;
      own = map-none refuses (own_rule tables command) both.1;
    }

-- ---- stops are no success

abbrev pub Fails : Option Stop → Type 0
Fails o = IfSome o (λ stop. is_success stop.outcome ≡ false)

unless-fails : (b : Bool) (stop : Stop) → is_success stop.outcome ≡ false → Fails (unless b stop)
unless-fails true stop h = tt
unless-fails false stop h = h

refuses-fails : (o : Option ℕ) → Fails (option_map refuses o)
refuses-fails None = tt
refuses-fails (Some code) = refl

or_else-fails : (a b : Option Stop) → Fails a → Fails b → Fails (or_else a b)
or_else-fails None b ha hb = hb
or_else-fails (Some stop) b ha hb = ha

and_then-fails : {A : Type 0} (f : A → Option Stop) (o : Option A) → ((x : A) → Fails (f x)) → Fails (option_and_then f o)
and_then-fails f None h = tt
and_then-fails f (Some x) h = h x

map_or-fails : {A : Type 0} (f : A → Option Stop) (o : Option A) (stop : Stop) → ((x : A) → Fails (f x)) → is_success stop.outcome ≡ false → Fails (option_map_or f o (Some stop))
map_or-fails f None stop h fails = fails
map_or-fails f (Some x) stop h fails = h x

denied-fails : {A : Type 0} (make : A → Stop) (o : Option A) → ((x : A) → is_success (make x).outcome ≡ false) → Fails (option_map make o)
denied-fails make None h = tt
denied-fails make (Some x) h = h x

handle-fails : (tables : TableState) (n handle : ℕ) → Fails (handle_stop tables n handle)
handle-fails tables n handle =
    elim (is_policy_session handle) as (λ b. Fails (if b then unless (is_live tables.sessions handle) (refuses (reference_of_handle n)) else option_map refuses (handle_rule tables.world n handle)))
    [ true ↦ unless-fails (is_live tables.sessions handle) (refuses (reference_of_handle n)) refl | false ↦ refuses-fails (handle_rule tables.world n handle) ]

handles-fail : (tables : TableState) (n : ℕ) (handles : List ℕ) → Fails (handles_from tables n handles)
handles-fail tables n [] = tt
handles-fail tables n (handle ∷ rest) = or_else-fails (handle_stop tables n handle) (handles_from tables (n + 1) rest) (handle-fails tables n handle) (handles-fail tables (n + 1) rest)

apart-fails : (own : Option (ℕ × ℕ)) (session : ℕ) → Fails (apart_stop own session)
apart-fails None session = tt
apart-fails (Some own) session = unless-fails (not (nat_eq own.0 session)) (refuses (rc_value + of_handle own.1)) refl

session-fails : (tables : TableState) (command : Command) → Fails (session_stop tables command)
session-fails tables command = and_then-fails _ (authorizing_session command)
    (λ session. or_else-fails (unless (is_live tables.sessions session) (refuses rc_reference_s0)) (apart_stop (policy_session_of command) session)
    (unless-fails (is_live tables.sessions session) (refuses rc_reference_s0) refl) (apart-fails (policy_session_of command) session))

room-fails : (tables : TableState) (command : Command) → Fails (room_stop tables command)
room-fails tables command = and_then-fails _ (policy_session_of command)
    (λ own. and_then-fails has_room (state_at tables.sessions own.0) (λ state. unless-fails (nat_lt (length state.facts) 512) (refuses rc_session_memory) refl))

entity-fails : (tables : TableState) (locality : ℕ) (command : Command) (area : AuthArea) (entity : Entity) → Fails (entity_stop tables locality command area entity)
entity-fails tables locality command area entity =
    elim (nat_eq area.session rs_pw) as (λ b. Fails (if b then password_stop entity (number_of_command command) area.hmac
    else option_map_or (policy_stop tables locality command area entity) (state_at tables.sessions area.session) (Some (refuses rc_reference_s0)))) [
      | true ↦ denied-fails (λ denial. denies denial (password_code entity (number_of_command command) denial)) (password_denial entity (number_of_command command) area.hmac) (λ denial. refl)
      | false ↦ map_or-fails (policy_stop tables locality command area entity) (state_at tables.sessions area.session) (refuses rc_reference_s0) policy-fails refl
    ]
  where
    policy-fails : (state : SessionState) → Fails (policy_stop tables locality command area entity state)
    policy-fails state = or_else-fails _ (option_map check_stop (broken_check tables locality command area entity state))
        (unless-fails (is_policy_available entity (number_of_command command)) (denies Unavailable rc_auth_unavailable) refl)
        (denied-fails check_stop (broken_check tables locality command area entity state) (λ check. refl))

authorization-fails : (tables : TableState) (locality : ℕ) (command : Command) → Fails (authorization_stop tables locality command)
authorization-fails tables locality command = and_then-fails (area_stop tables locality command) (area_of command)
    (λ area. map_or-fails (entity_stop tables locality command area) (authorized_entity tables command) (refuses (reference_of_handle 1)) (entity-fails tables locality command area) refl)

pub early-fails : (tables : TableState) (locality : ℕ) (command : Command) → Fails (early_stop tables locality command)
early-fails tables locality command =
    or_else-fails (handles_stop tables command) _ (handles-fail tables 1 (handles_of command))
    (or_else-fails (session_stop tables command) _ (session-fails tables command)
    (or_else-fails (authorization_stop tables locality command) (room_stop tables command) (authorization-fails tables locality command) (room-fails tables command)))

pub first-fails : (tables : TableState) (locality : ℕ) (command : Command) → Fails (first_stop tables locality command)
first-fails tables locality command = or_else-fails (early_stop tables locality command) _ (early-fails tables locality command) (refuses-fails (own_rule tables command))

-- ---- the event

not-served : (outcome : Outcome) → is_success outcome ≡ false → is_served outcome ≡ false
not-served Accepted h = absurd (false≢true (sym h))
not-served Served h = absurd (false≢true (sym h))
not-served (Denied denial) h = refl
not-served (Refused rc) h = refl

-- the event of a command that did not succeed leaves the tables
pub event-fails : (before : TableState) (number client locality : ℕ) (buffer : List ℕ) (answered : Answered) → is_success answered.outcome ≡ false
    → after_event before number (event_of client locality buffer answered) ≡ before
event-fails before number client locality buffer answered fails =
    ap (λ b. after_use number (if b then use_in (reading buffer) else None) (after_deed number (if is_success answered.outcome then deed_in (reading buffer) answered.reply else Idle) before)) (not-served answered.outcome fails)
    ∙ ap (λ b. after_deed number (if b then deed_in (reading buffer) answered.reply else Idle) before) fails

served-use : (o : Option AuthArea) → (if is_served (if is_some o then Served else Accepted) then area_use o else None) ≡ area_use o
served-use None = refl
served-use (Some area) = refl

event-succeeds : (before : TableState) (number client locality : ℕ) (buffer : List ℕ) (command : Command) → reading buffer ≡ Ok command
    → after_event before number (event_of client locality buffer (succeeding before number command)) ≡ after_success before number command (succeeding before number command).reply
event-succeeds before number client locality buffer command read =
    ap (λ found. after_use number (if is_served (success_of command) then use_in found else None)
    (after_deed number (if is_success (success_of command) then deed_in found (succeeding before number command).reply else Idle) before)) read
    ∙ (ap (λ used. after_use number used (after_deed number (if is_success (success_of command) then command_deed command (succeeding before number command).reply else Idle) before)) (served-use (area_of command))
    ∙ ap (λ b. after_use number (area_use (area_of command)) (after_deed number (if b then command_deed command (succeeding before number command).reply else Idle) before)) (success-is command))

-- what a response makes of the tables is what the event of its answer does
pub event-after : (before : TableState) (number client locality : ℕ) (buffer : List ℕ) (command : Command) → reading buffer ≡ Ok command
    → after_event before number (event_of client locality buffer (answer_to_command before number locality command))
    ≡ after_command before number command (answer_to_command before number locality command)
event-after before number client locality buffer command read = at (first_stop before locality command) (first-fails before locality command)
  where
    at : (o : Option Stop) → Fails o
        → after_event before number (event_of client locality buffer (answer_unless o (succeeding before number command)))
        ≡ after_command before number command (answer_unless o (succeeding before number command))
    at None fails =
        event-succeeds before number client locality buffer command read
        ∙ sym (ap (λ b. if b then after_success before number command (succeeding before number command).reply else before) (success-is command))
    at (Some stop) fails =
        event-fails before number client locality buffer (stopped stop) fails
        ∙ sym (ap (λ b. if b then after_success before number command (stopped stop).reply else before) fails)

-- What others do leaves the session of a run as it is.
use Rattle.std.proofs.Common.{◌≡◌, ℕ, ◌||◌, Bool, true, false, List, [], ◌∷◌, Option, None, Some, Result, Ok, Err, nat_eq, if◌then◌else◌, refl, ap, sym, ◌∙◌}
use Rattle.std.specs.Prelude.{⊤}
use Rattle.std.specs.List.{list_any}
use Rattle.std.specs.Option.{option_map_or}
use Rattle.std.proofs.lemmas.Bool.{eq-eqb, eqb-true, false≢true}
use Rattle.tpol_base.specs.Handle.{rs_pw}
use Rattle.tpol_name.specs.declared.setup.Setup.{Setup}
use Rattle.tpol_wire.specs.declared.auth_area.AuthArea.{AuthArea}
use Rattle.tpol_wire.specs.declared.command.Command.{Command}
use Rattle.tpol_wire.specs.declared.command.Command.TheVariants as commands
use Rattle.tpol_wire.specs.Reading.{reading}
use Rattle.tpm_session.specs.Slots.{handle_of_slot}
use Rattle.tpol_wire.specs.Handles.{area_of, handles_of}
use Rattle.tpm_engine.specs.declared.event.Event.{Event}
use Rattle.tpm_engine.specs.declared.event.Event.TheVariants as events
use Rattle.tpm_engine.specs.Answers.{first_stop, succeeding}
use Rattle.tpm_engine.specs.Calls.{Advance, Call, Execute, Reset, SetPresence, event_by}
use Rattle.tpm_engine.specs.Deeds.{Starts, area_use, command_deed, continues, started_by}
use Rattle.tpm_engine.specs.Events.{event_of}
use Rattle.tpm_engine.specs.SessionCommands.{start_rule}
use Rattle.tpm_engine.specs.Stops.{refuses}
use Rattle.tpm_engine.specs.Views.{is_held, next_number, view_of}
use Rattle.tpol_laws.specs.Others.{LeavesSession, is_authorized_by, names, names_as_parameter, names_in}
use Rattle.tpol_laws.proofs.After.{Stays, stays, touches, touches_by_use}
use Rattle.tpol_laws.proofs.Answered.{DidNothing, done-deed, done-use, on-answer, on-refusal, own-passed, stop-fails, stopped-idle}
use Rattle.tpol_laws.proofs.Starts.{held-taken, started}

-- ---- names

neither : (a b : Bool) → (a || b) ≡ false → (a ≡ false) × (b ≡ false)
neither true b h = absurd (false≢true (sym h))
neither false b h = (refl, h)

swapped : (a b : ℕ) → nat_eq a b ≡ false → nat_eq b a ≡ false
swapped a b h = other (nat_eq b a) refl
  where
    other : (c : Bool) → nat_eq b a ≡ c → nat_eq b a ≡ false
    other true e = absurd (false≢true (sym h ∙ eq-eqb a b (sym (eqb-true b a e))))
    other false e = e

first-of : (session own : ℕ) (rest : Bool) → (nat_eq session own || rest) ≡ false → nat_eq own session ≡ false
first-of session own rest h = swapped session own (neither (nat_eq session own) rest h).0

-- the session of a command's deed is among its handles, at the first, second or third place
place-1 : (session own : ℕ) (rest : List ℕ) (others : Bool) → (list_any (nat_eq session) (own ∷ rest) || others) ≡ false → nat_eq own session ≡ false
place-1 session own rest others h = first-of session own (list_any (nat_eq session) rest) (neither (list_any (nat_eq session) (own ∷ rest)) others h).0

place-2 : (session a own : ℕ) (rest : List ℕ) (others : Bool) → (list_any (nat_eq session) (a ∷ own ∷ rest) || others) ≡ false → nat_eq own session ≡ false
place-2 session a own rest others h =
    first-of session own (list_any (nat_eq session) rest) (neither (nat_eq session a) (list_any (nat_eq session) (own ∷ rest)) (neither (list_any (nat_eq session) (a ∷ own ∷ rest)) others h).0).1

place-3 : (session a b own : ℕ) (rest : List ℕ) (others : Bool) → (list_any (nat_eq session) (a ∷ b ∷ own ∷ rest) || others) ≡ false → nat_eq own session ≡ false
place-3 session a b own rest others h =
    let behind = neither (nat_eq session a) (list_any (nat_eq session) (b ∷ own ∷ rest)) (neither (list_any (nat_eq session) (a ∷ b ∷ own ∷ rest)) others h).0 in
    first-of session own (list_any (nat_eq session) rest) (neither (nat_eq session b) (list_any (nat_eq session) (own ∷ rest)) behind.1).1

-- ---- the deed of a command that doesn't name the session

-- a start is of another session
abbrev IsFresh : Command → List ℕ → ℕ → Type 0
IsFresh (commands.StartAuthSession tpm_key bind nonce) reply session = touches (started_by reply) session ≡ false
IsFresh _ reply session = ⊤

untouched : (command : Command) (reply : List ℕ) (session : ℕ) → names command session ≡ false → IsFresh command reply session → touches (command_deed command reply) session ≡ false
untouched (commands.StartAuthSession tpm_key bind nonce) reply session h fresh = fresh
untouched (commands.FlushContext own) reply session h fresh = (neither (nat_eq own session) _ h).0
untouched (commands.ContextSave own) reply session h fresh = refl
untouched (commands.ContextLoad sequence own digest) reply session h fresh = refl
untouched (commands.PolicyRestart own) reply session h fresh = place-1 session own [] _ h
untouched (commands.PolicyGetDigest own) reply session h fresh = refl
untouched (commands.PcrExtend pcr auth digest) reply session h fresh = refl
untouched (commands.PcrRead mask) reply session h fresh = refl
untouched (commands.VerifySignature key digest signature) reply session h fresh = refl
untouched (commands.Unseal object auth) reply session h fresh = refl
untouched (commands.Hmac key auth buffer hash) reply session h fresh = refl
untouched (commands.NvRead authority index auth size offset) reply session h fresh = refl
untouched (commands.NvWrite authority index auth bytes offset) reply session h fresh = refl
untouched (commands.NvIncrement authority index auth) reply session h fresh = refl
untouched (commands.Duplicate object parent auth) reply session h fresh = refl
untouched (commands.PolicyNv authority index own auth operand offset operation) reply session h fresh = place-3 session authority index own [] _ h
untouched (commands.PolicyCpHash own digest) reply session h fresh = place-1 session own [] _ h
untouched (commands.PolicyNameHash own digest) reply session h fresh = place-1 session own [] _ h
untouched (commands.PolicyAuthValue own) reply session h fresh = place-1 session own [] _ h
untouched (commands.PolicyPassword own) reply session h fresh = place-1 session own [] _ h
untouched (commands.PolicyPhysicalPresence own) reply session h fresh = place-1 session own [] _ h
untouched (commands.PolicyCommandCode own code) reply session h fresh = place-1 session own [] _ h
untouched (commands.PolicyCounterTimer own operand offset operation) reply session h fresh = place-1 session own [] _ h
untouched (commands.PolicyLocality own locality) reply session h fresh = place-1 session own [] _ h
untouched (commands.PolicyPcr own given mask) reply session h fresh = place-1 session own [] _ h
untouched (commands.PolicyDuplicationSelect own object parent include) reply session h fresh = place-1 session own [] _ h
untouched (commands.PolicyNvWritten own written) reply session h fresh = place-1 session own [] _ h
untouched (commands.PolicySigned key own nonce cp_hash policy_ref expiration signature) reply session h fresh = place-2 session key own [] _ h
untouched (commands.PolicySecret entity own auth nonce cp_hash policy_ref expiration) reply session h fresh = place-2 session entity own [] _ h
untouched (commands.PolicyTicket own timeout cp_hash policy_ref key ticket) reply session h fresh = place-1 session own [] _ h
untouched (commands.PolicyAuthorize own approved policy_ref key ticket) reply session h fresh = place-1 session own [] _ h
untouched (commands.PolicyOr own digests) reply session h fresh = place-1 session own [] _ h
untouched (commands.PolicyAuthorizeNv authority index own auth) reply session h fresh = place-3 session authority index own [] _ h

-- ---- its use

unused-area : (area : Option AuthArea) (session : ℕ) → option_map_or (λ (a : AuthArea). nat_eq a.session session) area false ≡ false → touches_by_use (area_use area) session ≡ false
unused-area None session h = refl
unused-area (Some area) session h = at (nat_eq area.session rs_pw)
  where
    at : (b : Bool) → touches_by_use (if b then None else Some (record { session = area.session; keep = continues area.attributes })) session ≡ false
    at true = refl
    at false = h

unused : (command : Command) (session : ℕ) → names command session ≡ false → touches_by_use (area_use (area_of command)) session ≡ false
unused command session h =
    unused-area (area_of command) session
    (neither (names_as_parameter command session) (is_authorized_by command session)
    (neither (list_any (nat_eq session) (handles_of command)) (names_as_parameter command session || is_authorized_by command session) h).1).1

-- ---- the start of another session

fresh-start : (setup : Setup) (past : List Event) (session : ℕ) → is_held past session ≡ true → start_rule (view_of setup past) ≡ None
    → (reply : List ℕ) → (slot : ℕ) → started_by reply ≡ Starts (handle_of_slot slot) → (is_held past (handle_of_slot slot) ≡ true → ⊥) → touches (started_by reply) session ≡ false
fresh-start setup past session held none reply slot deed taken = ap (λ d. touches d session) deed ∙ at (nat_eq (handle_of_slot slot) session) refl
  where
    at : (b : Bool) → nat_eq (handle_of_slot slot) session ≡ b → nat_eq (handle_of_slot slot) session ≡ false
    at true e = absurd (taken (ap (is_held past) (eqb-true (handle_of_slot slot) session e) ∙ held))
    at false e = e

fresh : (setup : Setup) (past : List Event) (locality session : ℕ) (command : Command) → is_held past session ≡ true → first_stop (view_of setup past) locality command ≡ None
    → IsFresh command (succeeding (view_of setup past) (next_number past) command).reply session
fresh setup past locality session (commands.StartAuthSession tpm_key bind nonce) held first =
    let rule = own-passed (view_of setup past) locality (commands.StartAuthSession tpm_key bind nonce) first in
    let start = started (view_of setup past) (next_number past) rule in
    fresh-start setup past session held rule _ start.slot start.is.deed (held-taken setup past start.slot start.is.within start.is.free)
fresh setup past locality session command held first = tt

-- ---- one event of others

idle-stays : (setup : Setup) (past : List Event) (event : Event) (session : ℕ) → DidNothing event → Stays setup past event session
idle-stays setup past event session did =
    stays setup past event session (ap (λ d. touches d session) did.deed) (ap (λ u. touches_by_use u session) did.uses)

command-stays : (setup : Setup) (past : List Event) (client locality : ℕ) (buffer : List ℕ) (session : ℕ) (command : Command) → reading buffer ≡ Ok command → is_held past session ≡ true → names command session ≡ false
    → first_stop (view_of setup past) locality command ≡ None
    → Stays setup past (event_of client locality buffer (succeeding (view_of setup past) (next_number past) command)) session
command-stays setup past client locality buffer session command reads held apart first =
    let tables = view_of setup past in
    let number = next_number past in
    stays setup past _ session
    (ap (λ d. touches d session) (done-deed tables number client locality buffer command reads)
    ∙ untouched command (succeeding tables number command).reply session apart (fresh setup past locality session command held first))
    (ap (λ u. touches_by_use u session) (done-use tables number client locality buffer command reads) ∙ unused command session apart)

read-stays : (setup : Setup) (past : List Event) (client locality : ℕ) (buffer : List ℕ) (session : ℕ) (read : Result Command ℕ) → reading buffer ≡ read → is_held past session ≡ true → names_in read session ≡ false
    → Stays setup past (event_by setup past (Execute client locality buffer)) session
read-stays setup past client locality buffer session (Err code) reads held apart =
    on-refusal (λ a. Stays setup past (event_of client locality buffer a) session) (view_of setup past) (next_number past) locality buffer code reads
    (idle-stays setup past _ session (stopped-idle client locality buffer (refuses code) refl))
read-stays setup past client locality buffer session (Ok command) reads held apart =
    on-answer (λ a. Stays setup past (event_of client locality buffer a) session) (view_of setup past) (next_number past) locality buffer command reads
    (λ stop is. idle-stays setup past _ session (stopped-idle client locality buffer stop (stop-fails (view_of setup past) locality command stop is)))
    (λ first. command-stays setup past client locality buffer session command reads held apart first)

pub others-stay : (setup : Setup) (past : List Event) (session : ℕ) (call : Call) → is_held past session ≡ true → LeavesSession call session → Stays setup past (event_by setup past call) session
others-stay setup past session (Execute client locality buffer) held leaves = read-stays setup past client locality buffer session (reading buffer) refl held leaves
others-stay setup past session (Advance ms) held leaves = stays setup past (events.Time ms) session refl refl
others-stay setup past session (SetPresence on) held leaves = stays setup past (events.Presence on) session refl refl
others-stay setup past session Reset held leaves = absurd leaves

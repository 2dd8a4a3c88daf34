-- The views of a journal: what a machine has at a moment, told from its setup and its events alone, newest
-- event first.
--
-- Each view is a recursion of its own over the events: what an event's deed makes of it, and for sessions
-- what the use makes of it through which a command was served. `view_of` puts them together.
use Rattle.std.specs.Prelude.{ℕ, zero, suc, ◌+◌, ◌==◌, ◌&&◌, Bool, true, false, List, [], ◌∷◌, ◌++◌, length, Option, Some, None, is_some, if◌then◌else◌}
use Rattle.tpol_base.specs.declared.digest.Digest32.{Digest32}
use Rattle.tpol_base.specs.Digest.{zero_digest}
use Rattle.tpol_name.specs.declared.entries.IndexEntry.{IndexEntry}
use Rattle.tpol_name.specs.declared.setup.Setup.{Setup}
use Rattle.tpol_tree.specs.declared.facts.Fact.{Fact}
use Rattle.tpm_bindings.specs.State.{SessionState}
use Rattle.tpm_context.specs.Saved.{SavedState}
use Rattle.tpm_nv.specs.Indices.{incremented_at, written_at}
use Rattle.tpm_pcr.specs.Bank.{Bank}
use Rattle.tpm_pcr.specs.Pcrs.{cleared, extended}
use Rattle.tpm_session.specs.Kept.{state_of, counter_after as first_counter}
use Rattle.tpm_session.specs.Slots.{handle_of_slot, slot_count}
use Rattle.tpm_world.specs.Hashes.{nonce_of_event}
use Rattle.tpm_world.specs.Surroundings.{counted_on}
use Rattle.tpm_world.specs.World.{WorldState, world_of}
use Rattle.tpm_engine.specs.declared.event.Event.{Event}
use Rattle.tpm_engine.specs.Deeds.{Deed, Passes, Shifts, Resets, Extends, Writes, Increments, Starts, Ends, Restarts, Saves, Loads, Shows, SessionUse, deed_of, use_of}
use Rattle.tpm_engine.specs.Facts.{Moment, moment}
use Rattle.tpm_engine.specs.Tables.{TableState}

-- the number of the event behind these
abbrev pub next_number : List Event → ℕ
next_number past = length past + 1

-- ---- the world

-- time in milliseconds: from the setup's, and from 0 after a Reset
abbrev pub time_after : Deed → ℕ → ℕ
time_after (Passes ms) time = time + ms
time_after Resets time = 0
time_after _ time = time

unfoldable pub time_of : Setup → List Event → ℕ
time_of setup [] = setup.time
time_of setup (event ∷ past) = time_after (deed_of event) (time_of setup past)

-- physical presence: as it was last set
abbrev pub presence_after : Deed → Bool → Bool
presence_after (Shifts on) presence = on
presence_after _ presence = presence

unfoldable pub presence_of : Setup → List Event → Bool
presence_of setup [] = setup.presence
presence_of setup (event ∷ past) = presence_after (deed_of event) (presence_of setup past)

-- the count of Resets, which stops at its last number, and that of restarts since
abbrev pub reset_count_after : Deed → ℕ → ℕ
reset_count_after Resets count = counted_on count
reset_count_after _ count = count

unfoldable pub reset_count_of : Setup → List Event → ℕ
reset_count_of setup [] = setup.reset_count
reset_count_of setup (event ∷ past) = reset_count_after (deed_of event) (reset_count_of setup past)

abbrev pub restart_count_after : Deed → ℕ → ℕ
restart_count_after Resets count = 0
restart_count_after _ count = count

unfoldable pub restart_count_of : Setup → List Event → ℕ
restart_count_of setup [] = setup.restart_count
restart_count_of setup (event ∷ past) = restart_count_after (deed_of event) (restart_count_of setup past)

-- the values of the PCRs and their update counter: each PCR_Extend since the last Reset, in order
abbrev pub pcrs_after : Deed → Bank → Bank
pcrs_after (Extends pcr digest) pcrs = extended pcrs pcr digest
pcrs_after Resets pcrs = cleared
pcrs_after _ pcrs = pcrs

unfoldable pub pcrs_of : Setup → List Event → Bank
pcrs_of setup [] = record { values = setup.pcrs; counter = setup.pcr_counter }
pcrs_of setup (event ∷ past) = pcrs_after (deed_of event) (pcrs_of setup past)

-- the contents and attributes of the indices: each NV_Write and NV_Increment, in order
abbrev pub indices_after : Deed → List IndexEntry → List IndexEntry
indices_after (Writes index offset bytes) indices = written_at index offset bytes indices
indices_after (Increments index) indices = incremented_at index indices
indices_after _ indices = indices

unfoldable pub indices_of : Setup → List Event → List IndexEntry
indices_of setup [] = setup.indices
indices_of setup (event ∷ past) = indices_after (deed_of event) (indices_of setup past)

-- all of it; seed, hierarchies and objects stay
unfoldable pub world_at : Setup → List Event → WorldState
world_at setup past = record (world_of setup) {
  indices = indices_of setup past;
  pcrs = pcrs_of setup past;
  time = time_of setup past;
  reset_count = reset_count_of setup past;
  restart_count = restart_count_of setup past;
  presence = presence_of setup past;
}

-- ---- a session, by its handle

-- A session is held where its last StartAuthSession has after it no Reset, no FlushContext of it and no
-- command served through it with continueSession clear.
abbrev pub held_after : Deed → ℕ → Bool → Bool
held_after (Starts started) session held = if started == session then true else held
held_after (Ends ended) session held = if ended == session then false else held
held_after Resets session held = false
held_after _ session held = held

abbrev pub held_used : Option SessionUse → ℕ → Bool → Bool
held_used None session held = held
held_used (Some served) session held = if served.session == session then served.keep && held else held

unfoldable pub is_held : List Event → ℕ → Bool
is_held [] session = false
is_held (event ∷ past) session = held_used (use_of event) session (held_after (deed_of event) session (is_held past session))

-- A held session is saved where its last ContextSave since its start has no ContextLoad of it after it; it
-- is saved under the number of that event.
abbrev pub sequence_after : Deed → ℕ → ℕ → Option ℕ → Option ℕ
sequence_after (Starts started) session number sequence = if started == session then None else sequence
sequence_after (Saves saved) session number sequence = if saved == session then Some number else sequence
sequence_after (Loads loaded) session number sequence = if loaded == session then None else sequence
sequence_after _ session number sequence = sequence

unfoldable pub sequence_of : List Event → ℕ → Option ℕ
sequence_of [] session = None
sequence_of (event ∷ past) session = sequence_after (deed_of event) session (next_number past) (sequence_of past session)

-- the time at its last StartAuthSession
abbrev pub start_after : Deed → ℕ → ℕ → ℕ → ℕ
start_after (Starts started) session time start = if started == session then time else start
start_after _ session time start = start

unfoldable pub start_of : Setup → List Event → ℕ → ℕ
start_of setup [] session = 0
start_of setup (event ∷ past) session = start_after (deed_of event) session (time_of setup past) (start_of setup past session)

-- its nonceTPM: that of the last event that started it or was served through it
abbrev pub nonce_after : Deed → ℕ → Digest32 → Digest32 → Digest32
nonce_after (Starts started) session fresh nonce = if started == session then fresh else nonce
nonce_after _ session fresh nonce = nonce

abbrev pub nonce_used : Option SessionUse → ℕ → Digest32 → Digest32 → Digest32
nonce_used None session fresh nonce = nonce
nonce_used (Some served) session fresh nonce = if served.session == session then fresh else nonce

unfoldable pub nonce_of : Setup → List Event → ℕ → Digest32
nonce_of setup [] session = zero_digest
nonce_of setup (event ∷ past) session =
    nonce_used (use_of event) session (nonce_of_event setup.seed (next_number past))
    (nonce_after (deed_of event) session (nonce_of_event setup.seed (next_number past)) (nonce_of setup past session))

-- its facts: those of the policy commands that succeeded through it since the last of these events: its
-- StartAuthSession, a PolicyRestart of it, a command served through it, a Reset
abbrev pub facts_after : Deed → ℕ → Moment → List Fact → List Fact
facts_after (Starts started) session now facts = if started == session then [] else facts
facts_after (Restarts restarted) session now facts = if restarted == session then [] else facts
facts_after (Shows shown fact) session now facts = if shown == session then facts ++ fact now ∷ [] else facts
facts_after Resets session now facts = []
facts_after _ session now facts = facts

abbrev pub facts_used : Option SessionUse → ℕ → List Fact → List Fact
facts_used None session facts = facts
facts_used (Some served) session facts = if served.session == session then [] else facts

unfoldable pub facts_of : Setup → List Event → ℕ → List Fact
facts_of setup [] session = []
facts_of setup (event ∷ past) session =
    facts_used (use_of event) session
    (facts_after (deed_of event) session
    (moment (world_at setup past) (next_number past) (start_of setup past session) (facts_of setup past session))
    (facts_of setup past session))

-- what a fact is made of that comes through it now
abbrev pub moment_of : Setup → List Event → ℕ → Moment
moment_of setup past session =
    moment (world_at setup past) (next_number past) (start_of setup past session) (facts_of setup past session)

-- the PCR counter that the first PolicyPCR among these facts found
abbrev pub counter_after : Deed → ℕ → Moment → Option ℕ → Option ℕ
counter_after (Starts started) session now counter = if started == session then None else counter
counter_after (Restarts restarted) session now counter = if restarted == session then None else counter
counter_after (Shows shown fact) session now counter =
    if shown == session then first_counter counter (fact now).act now.world.pcrs.counter else counter
counter_after Resets session now counter = None
counter_after _ session now counter = counter

abbrev pub counter_used : Option SessionUse → ℕ → Option ℕ → Option ℕ
counter_used None session counter = counter
counter_used (Some served) session counter = if served.session == session then None else counter

unfoldable pub counter_of : Setup → List Event → ℕ → Option ℕ
counter_of setup [] session = None
counter_of setup (event ∷ past) session =
    counter_used (use_of event) session
    (counter_after (deed_of event) session (moment_of setup past session) (counter_of setup past session))

-- what rules read of it
unfoldable pub session_state : Setup → List Event → ℕ → SessionState
session_state setup past session =
    state_of (start_of setup past session) (nonce_of setup past session) (facts_of setup past session) (counter_of setup past session)

-- whether it is live, and whether it is saved
abbrev pub is_live : List Event → ℕ → Bool
is_live past session = is_held past session && not_saved (sequence_of past session)
  where
    not_saved : Option ℕ → Bool
    not_saved None = true
    not_saved (Some sequence) = false

abbrev pub is_saved : List Event → ℕ → Bool
is_saved past session = is_held past session && is_some (sequence_of past session)

-- ---- all together

-- what a slot of live sessions has, and what one of saved sessions has
abbrev pub live_slot : Bool → Option ℕ → SessionState → Option SessionState
live_slot true None state = Some state
live_slot held sequence state = None

abbrev pub saved_slot : Bool → Option ℕ → SessionState → Option SavedState
saved_slot true (Some sequence) state = Some (record { sequence = sequence; state = state })
saved_slot held sequence state = None

-- the list f 0, f 1, .. of n items
unfoldable pub table : {A : Type 0} → ℕ → (ℕ → A) → List A
table zero f = []
table (suc n) f = f 0 ∷ table n (λ k. f (suc k))

abbrev pub live_at : Setup → List Event → ℕ → Option SessionState
live_at setup past session = live_slot (is_held past session) (sequence_of past session) (session_state setup past session)

abbrev pub saved_at : Setup → List Event → ℕ → Option SavedState
saved_at setup past session = saved_slot (is_held past session) (sequence_of past session) (session_state setup past session)

-- what a machine has after these events
unfoldable pub view_of : Setup → List Event → TableState
view_of setup past = record {
  world = world_at setup past;
  sessions = table slot_count (λ slot. live_at setup past (handle_of_slot slot));
  saved = table slot_count (λ slot. saved_at setup past (handle_of_slot slot));
}

-- The link: the views after an event are the tables that the event makes of the views before it.
use Rattle.std.proofs.Common.{◌≡◌, ℕ, ◌&&◌, Bool, true, false, List, [], ◌∷◌, ◌++◌, Option, None, Some, nat_eq, if◌then◌else◌, refl, ap, sym, ◌∙◌}
use Rattle.std.specs.Option.{option_map, option_or}
use Rattle.tpol_base.specs.declared.digest.Digest32.{Digest32}
use Rattle.tpol_name.specs.declared.setup.Setup.{Setup}
use Rattle.tpol_tree.specs.declared.facts.Fact.{Fact}
use Rattle.tpm_bindings.specs.State.{SessionState}
use Rattle.tpm_context.specs.Saved.{SavedState}
use Rattle.tpm_session.specs.Kept.{counter_after as first_counter, state_of, with_fact, with_nonce, without_facts}
use Rattle.tpm_session.specs.Slots.{content_at, handle_of_slot, slot_count, with_content}
use Rattle.tpm_world.specs.Hashes.{nonce_of_event}
use Rattle.tpm_world.specs.World.{WorldState, world_of}
use Rattle.tpm_engine.specs.declared.event.Event.{Event}
use Rattle.tpm_engine.specs.Deeds.{Deed, Resets, Starts, Ends, Restarts, Saves, Loads, Shows, SessionUse, after_deed, after_event, after_use, deed_of, use_of, with_shown}
use Rattle.tpm_engine.specs.Facts.{moment}
use Rattle.tpm_engine.specs.Tables.{TableState, first_tables, saved_changed, with_changed, without}
use Rattle.tpm_engine.specs.Views.{counter_after, counter_of, counter_used, facts_after, facts_of, facts_used, held_after, held_used, indices_after, indices_of, is_held, live_slot, next_number, nonce_after, nonce_of, nonce_used, pcrs_after, pcrs_of, presence_after, presence_of, reset_count_after, reset_count_of, restart_count_after, restart_count_of, saved_slot, sequence_after, sequence_of, session_state, start_after, start_of, table, time_after, time_of, view_of, world_at}
use Rattle.tpm_engine.proofs.Tabulated.{table-replicate, table-same, written}

-- what the views tell of a session
record Seen : Type 0 where
  held : Bool
  sequence : Option ℕ
  state : SessionState

abbrev live : Seen → Option SessionState
live seen = live_slot seen.held seen.sequence seen.state

abbrev saved : Seen → Option SavedState
saved seen = saved_slot seen.held seen.sequence seen.state

-- the tables of what is seen
abbrev tables_of : WorldState → (ℕ → Seen) → TableState
tables_of world seen = record {
  world = world;
  sessions = table slot_count (λ slot. live (seen (handle_of_slot slot)));
  saved = table slot_count (λ slot. saved (seen (handle_of_slot slot)));
}

-- the world after a deed, view by view
abbrev world_after : Deed → WorldState → WorldState
world_after deed world = record world {
  indices = indices_after deed world.indices;
  pcrs = pcrs_after deed world.pcrs;
  time = time_after deed world.time;
  reset_count = reset_count_after deed world.reset_count;
  restart_count = restart_count_after deed world.restart_count;
  presence = presence_after deed world.presence;
}

-- a session after a deed, and after a use, view by view
abbrev seen_after : WorldState → ℕ → Deed → ℕ → Seen → Seen
seen_after world number deed session seen = record {
  held = held_after deed session seen.held;
  sequence = sequence_after deed session number seen.sequence;
  state = record {
    start = start_after deed session world.time seen.state.start;
    nonce = nonce_after deed session (nonce_of_event world.seed number) seen.state.nonce;
    facts = facts_after deed session (moment world number seen.state.start seen.state.facts) seen.state.facts;
    counter = counter_after deed session (moment world number seen.state.start seen.state.facts) seen.state.counter;
  };
}

abbrev seen_used : Digest32 → Option SessionUse → ℕ → Seen → Seen
seen_used fresh used session seen = record {
  held = held_used used session seen.held;
  sequence = seen.sequence;
  state = record {
    start = seen.state.start;
    nonce = nonce_used used session fresh seen.state.nonce;
    facts = facts_used used session seen.state.facts;
    counter = counter_used used session seen.state.counter;
  };
}

abbrev sessions_of : (ℕ → Seen) → List (Option SessionState)
sessions_of seen = table slot_count (λ slot. live (seen (handle_of_slot slot)))

abbrev saved_of : (ℕ → Seen) → List (Option SavedState)
saved_of seen = table slot_count (λ slot. saved (seen (handle_of_slot slot)))

-- tables of equal parts
tables-same : (world : WorldState) {a b : List (Option SessionState)} {c d : List (Option SavedState)} → a ≡ b → c ≡ d
    → ◌≡◌ {A = TableState} (record { world = world; sessions = a; saved = c }) (record { world = world; sessions = b; saved = d })
tables-same world {a} {b} {c} {d} first second =
    ap (λ x. record { world = world; sessions = x; saved = c }) first
    ∙ ap (λ y. record { world = world; sessions = b; saved = y }) second

-- a write at a handle into the live sessions, and into the saved ones
sessions-written : (seen later : ℕ → Seen) (handle : ℕ) (to : Option SessionState → Option SavedState → Option SessionState)
    → ((s : ℕ) → (if nat_eq handle s then to (live (seen s)) (saved (seen s)) else live (seen s)) ≡ live (later s))
    → with_content (sessions_of seen) handle (to (content_at (sessions_of seen) handle) (content_at (saved_of seen) handle)) ≡ sessions_of later
sessions-written seen later handle to each =
    written handle (λ s. live (seen s)) (λ s. saved (seen s)) to
    ∙ table-same slot_count _ (λ slot. live (later (handle_of_slot slot))) (λ slot. each (handle_of_slot slot))

saved-written : (seen later : ℕ → Seen) (handle : ℕ) (to : Option SavedState → Option SessionState → Option SavedState)
    → ((s : ℕ) → (if nat_eq handle s then to (saved (seen s)) (live (seen s)) else saved (seen s)) ≡ saved (later s))
    → with_content (saved_of seen) handle (to (content_at (saved_of seen) handle) (content_at (sessions_of seen) handle)) ≡ saved_of later
saved-written seen later handle to each =
    written handle (λ s. saved (seen s)) (λ s. live (seen s)) to
    ∙ table-same slot_count _ (λ slot. saved (later (handle_of_slot slot))) (λ slot. each (handle_of_slot slot))

-- ---- a slot after a deed: `here` says that it is the slot of the deed's handle

-- a session starts
started-live : (here : Bool) (seen : Seen) (state : SessionState)
    → (if here then Some state else live seen) ≡ live_slot (if here then true else seen.held) (if here then None else seen.sequence)
    (record { start = if here then state.start else seen.state.start; nonce = if here then state.nonce else seen.state.nonce; facts = if here then state.facts else seen.state.facts; counter = if here then state.counter else seen.state.counter })
started-live true seen state = refl
started-live false seen state = refl

started-saved : (here : Bool) (seen : Seen) (state : SessionState)
    → (if here then None else saved seen) ≡ saved_slot (if here then true else seen.held) (if here then None else seen.sequence)
    (record { start = if here then state.start else seen.state.start; nonce = if here then state.nonce else seen.state.nonce; facts = if here then state.facts else seen.state.facts; counter = if here then state.counter else seen.state.counter })
started-saved true seen state = refl
started-saved false seen state = refl

-- a session ends
ended-live : (here : Bool) (seen : Seen) → (if here then None else live seen) ≡ live_slot (if here then false else seen.held) seen.sequence seen.state
ended-live true seen = refl
ended-live false seen = refl

ended-saved : (here : Bool) (seen : Seen) → (if here then None else saved seen) ≡ saved_slot (if here then false else seen.held) seen.sequence seen.state
ended-saved true seen = refl
ended-saved false seen = refl

-- a change of a state commutes with the slot
live-changed : (held : Bool) (sequence : Option ℕ) (state : SessionState) (change : SessionState → SessionState) → option_map change (live_slot held sequence state) ≡ live_slot held sequence (change state)
live-changed true None state change = refl
live-changed true (Some number) state change = refl
live-changed false sequence state change = refl

saved-changed : (held : Bool) (sequence : Option ℕ) (state : SessionState) (change : SessionState → SessionState) → option_map (saved_changed change) (saved_slot held sequence state) ≡ saved_slot held sequence (change state)
saved-changed true None state change = refl
saved-changed true (Some number) state change = refl
saved-changed false sequence state change = refl

-- the session of a handle changes
changed-live : (here : Bool) (seen : Seen) (change : SessionState → SessionState) (later : SessionState) → (if here then change seen.state else seen.state) ≡ later
    → (if here then option_map change (live seen) else live seen) ≡ live_slot seen.held seen.sequence later
changed-live true seen change later same = live-changed seen.held seen.sequence seen.state change ∙ ap (live_slot seen.held seen.sequence) same
changed-live false seen change later same = ap (live_slot seen.held seen.sequence) same

changed-saved : (here : Bool) (seen : Seen) (change : SessionState → SessionState) (later : SessionState) → (if here then change seen.state else seen.state) ≡ later
    → (if here then option_map (saved_changed change) (saved seen) else saved seen) ≡ saved_slot seen.held seen.sequence later
changed-saved true seen change later same = saved-changed seen.held seen.sequence seen.state change ∙ ap (saved_slot seen.held seen.sequence) same
changed-saved false seen change later same = ap (saved_slot seen.held seen.sequence) same

-- a session is saved under a number
saving-live : (here : Bool) (seen : Seen) (number : ℕ) → (if here then None else live seen) ≡ live_slot seen.held (if here then Some number else seen.sequence) seen.state
saving-live true seen number = emptied seen.held
  where
    emptied : (held : Bool) → None ≡ live_slot held (Some number) seen.state
    emptied true = refl
    emptied false = refl
saving-live false seen number = refl

saving-saved : (here : Bool) (seen : Seen) (number : ℕ)
    → (if here then option_map (λ state. record { sequence = number; state = state }) (option_or (live seen) (option_map (λ kept. kept.state) (saved seen))) else saved seen)
    ≡ saved_slot seen.held (if here then Some number else seen.sequence) seen.state
saving-saved true seen number = moved seen.held seen.sequence
  where
    moved : (held : Bool) (sequence : Option ℕ)
        → option_map (λ state. record { sequence = number; state = state }) (option_or (live_slot held sequence seen.state) (option_map (λ kept. kept.state) (saved_slot held sequence seen.state)))
        ≡ saved_slot held (Some number) seen.state
    moved true None = refl
    moved true (Some before) = refl
    moved false sequence = refl
saving-saved false seen number = refl

-- a session is loaded
loading-live : (here : Bool) (seen : Seen)
    → (if here then option_or (live seen) (option_map (λ kept. kept.state) (saved seen)) else live seen)
    ≡ live_slot seen.held (if here then None else seen.sequence) seen.state
loading-live true seen = moved seen.held seen.sequence
  where
    moved : (held : Bool) (sequence : Option ℕ)
        → option_or (live_slot held sequence seen.state) (option_map (λ kept. kept.state) (saved_slot held sequence seen.state)) ≡ live_slot held None seen.state
    moved true None = refl
    moved true (Some before) = refl
    moved false sequence = refl
loading-live false seen = refl

loading-saved : (here : Bool) (seen : Seen) → (if here then None else saved seen) ≡ saved_slot seen.held (if here then None else seen.sequence) seen.state
loading-saved true seen = emptied seen.held
  where
    emptied : (held : Bool) → None ≡ saved_slot held None seen.state
    emptied true = refl
    emptied false = refl
loading-saved false seen = refl

-- a session loses its facts, is shown one, or serves
restarted-state : (here : Bool) (state : SessionState) → (if here then without_facts state else state) ≡ record { start = state.start; nonce = state.nonce; facts = if here then [] else state.facts; counter = if here then None else state.counter }
restarted-state true state = refl
restarted-state false state = refl

shown-state : (here : Bool) (state : SessionState) (fact : Fact) (counter : ℕ)
    → (if here then with_fact state fact counter else state)
    ≡ record { start = state.start; nonce = state.nonce; facts = if here then state.facts ++ fact ∷ [] else state.facts; counter = if here then first_counter state.counter fact.act counter else state.counter }
shown-state true state fact counter = refl
shown-state false state fact counter = refl

-- ---- the tables after a deed

after_deed-seen : (world : WorldState) (number : ℕ) (deed : Deed) (seen : ℕ → Seen)
    → after_deed number deed (tables_of world seen) ≡ tables_of (world_after deed world) (λ s. seen_after world number deed s (seen s))
after_deed-seen world number Resets seen =
    tables-same (world_after Resets world) (table-replicate slot_count None) (table-replicate slot_count None)
after_deed-seen world number (Starts handle) seen =
    let state : SessionState = state_of world.time (nonce_of_event world.seed number) [] None in
    tables-same world
    (sessions-written seen _ handle (λ at other. Some state) (λ s. started-live (nat_eq handle s) (seen s) state))
    (saved-written seen _ handle (λ at other. None) (λ s. started-saved (nat_eq handle s) (seen s) state))
after_deed-seen world number (Ends handle) seen =
    tables-same world
    (sessions-written seen _ handle (λ at other. None) (λ s. ended-live (nat_eq handle s) (seen s)))
    (saved-written seen _ handle (λ at other. None) (λ s. ended-saved (nat_eq handle s) (seen s)))
after_deed-seen world number (Restarts handle) seen =
    tables-same world
    (sessions-written seen _ handle (λ at other. option_map without_facts at)
    (λ s. changed-live (nat_eq handle s) (seen s) without_facts _ (restarted-state (nat_eq handle s) (seen s).state)))
    (saved-written seen _ handle (λ at other. option_map (saved_changed without_facts) at)
    (λ s. changed-saved (nat_eq handle s) (seen s) without_facts _ (restarted-state (nat_eq handle s) (seen s).state)))
after_deed-seen world number (Saves handle) seen =
    tables-same world
    (sessions-written seen _ handle (λ at other. None) (λ s. saving-live (nat_eq handle s) (seen s) number))
    (saved-written seen _ handle (λ at other. option_map (λ state. record { sequence = number; state = state }) (option_or other (option_map (λ kept. kept.state) at)))
    (λ s. saving-saved (nat_eq handle s) (seen s) number))
after_deed-seen world number (Loads handle) seen =
    tables-same world
    (sessions-written seen _ handle (λ at other. option_or at (option_map (λ kept. kept.state) other)) (λ s. loading-live (nat_eq handle s) (seen s)))
    (saved-written seen _ handle (λ at other. None) (λ s. loading-saved (nat_eq handle s) (seen s)))
after_deed-seen world number (Shows handle fact) seen =
    let change : SessionState → SessionState = with_shown world number fact in
    let shown : (s : ℕ) → Fact = λ s. fact (moment world number (seen s).state.start (seen s).state.facts) in
    tables-same world
    (sessions-written seen _ handle (λ at other. option_map change at)
    (λ s. changed-live (nat_eq handle s) (seen s) change _ (shown-state (nat_eq handle s) (seen s).state (shown s) world.pcrs.counter)))
    (saved-written seen _ handle (λ at other. option_map (saved_changed change) at)
    (λ s. changed-saved (nat_eq handle s) (seen s) change _ (shown-state (nat_eq handle s) (seen s).state (shown s) world.pcrs.counter)))
after_deed-seen world number _ seen = refl

-- a session that served is kept
kept-live : (here : Bool) (seen : Seen) (fresh : Digest32)
    → (if here then option_map (λ state. with_nonce state fresh) (live seen) else live seen)
    ≡ live_slot (if here then true && seen.held else seen.held) seen.sequence
    (record { start = seen.state.start; nonce = if here then fresh else seen.state.nonce; facts = if here then [] else seen.state.facts; counter = if here then None else seen.state.counter })
kept-live true seen fresh = live-changed seen.held seen.sequence seen.state (λ state. with_nonce state fresh)
kept-live false seen fresh = refl

kept-saved : (here : Bool) (seen : Seen) (fresh : Digest32)
    → (if here then option_map (saved_changed (λ state. with_nonce state fresh)) (saved seen) else saved seen)
    ≡ saved_slot (if here then true && seen.held else seen.held) seen.sequence
    (record { start = seen.state.start; nonce = if here then fresh else seen.state.nonce; facts = if here then [] else seen.state.facts; counter = if here then None else seen.state.counter })
kept-saved true seen fresh = saved-changed seen.held seen.sequence seen.state (λ state. with_nonce state fresh)
kept-saved false seen fresh = refl

-- or ends
dropped-live : (here : Bool) (seen : Seen) (fresh : Digest32)
    → (if here then None else live seen)
    ≡ live_slot (if here then false && seen.held else seen.held) seen.sequence
    (record { start = seen.state.start; nonce = if here then fresh else seen.state.nonce; facts = if here then [] else seen.state.facts; counter = if here then None else seen.state.counter })
dropped-live true seen fresh = refl
dropped-live false seen fresh = refl

dropped-saved : (here : Bool) (seen : Seen) (fresh : Digest32)
    → (if here then None else saved seen)
    ≡ saved_slot (if here then false && seen.held else seen.held) seen.sequence
    (record { start = seen.state.start; nonce = if here then fresh else seen.state.nonce; facts = if here then [] else seen.state.facts; counter = if here then None else seen.state.counter })
dropped-saved true seen fresh = refl
dropped-saved false seen fresh = refl

-- ---- the tables after a use

after_use-seen : (world : WorldState) (number : ℕ) (used : Option SessionUse) (seen : ℕ → Seen)
    → after_use number used (tables_of world seen) ≡ tables_of world (λ s. seen_used (nonce_of_event world.seed number) used s (seen s))
after_use-seen world number None seen = refl
after_use-seen world number (Some served) seen = at served.keep
  where
    at : (keep : Bool)
        → (if keep then with_changed (tables_of world seen) served.session (λ state. with_nonce state (nonce_of_event world.seed number)) else without (tables_of world seen) served.session)
        ≡ tables_of world (λ s. seen_used (nonce_of_event world.seed number) (Some (record { session = served.session; keep = keep })) s (seen s))
    at true =
        tables-same world
        (sessions-written seen _ served.session (λ at other. option_map (λ state. with_nonce state (nonce_of_event world.seed number)) at)
        (λ s. kept-live (nat_eq served.session s) (seen s) (nonce_of_event world.seed number)))
        (saved-written seen _ served.session (λ at other. option_map (saved_changed (λ state. with_nonce state (nonce_of_event world.seed number))) at)
        (λ s. kept-saved (nat_eq served.session s) (seen s) (nonce_of_event world.seed number)))
    at false =
        tables-same world
        (sessions-written seen _ served.session (λ at other. None) (λ s. dropped-live (nat_eq served.session s) (seen s) (nonce_of_event world.seed number)))
        (saved-written seen _ served.session (λ at other. None) (λ s. dropped-saved (nat_eq served.session s) (seen s) (nonce_of_event world.seed number)))

-- ---- the link

abbrev seen_of : Setup → List Event → ℕ → Seen
seen_of setup past session = record { held = is_held past session; sequence = sequence_of past session; state = session_state setup past session }

pub link : (setup : Setup) (past : List Event) (event : Event) → view_of setup (event ∷ past) ≡ after_event (view_of setup past) (next_number past) event
unfolding view_of world_at time_of presence_of reset_count_of restart_count_of pcrs_of indices_of is_held sequence_of session_state start_of nonce_of facts_of counter_of
link setup past event =
    sym (ap (after_use (next_number past) (use_of event)) (after_deed-seen (world_at setup past) (next_number past) (deed_of event) (seen_of setup past))
    ∙ after_use-seen (world_after (deed_of event) (world_at setup past)) (next_number past) (use_of event)
    (λ s. seen_after (world_at setup past) (next_number past) (deed_of event) s (seen_of setup past s)))

-- what a machine has that just started
pub link-start : (setup : Setup) → view_of setup [] ≡ first_tables setup
unfolding view_of world_at time_of presence_of reset_count_of restart_count_of pcrs_of indices_of is_held sequence_of session_state
link-start setup = tables-same (world_of setup) (sym (table-replicate slot_count None)) (sym (table-replicate slot_count None))

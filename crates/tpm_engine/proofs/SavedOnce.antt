-- Saved sessions: a load needs a save, and gives back what was saved.
use Rattle.std.proofs.Common.{◌≡◌, ◌≢◌, ℕ, suc, ◌+◌, ◌-◌, ◌/◌, ◌^◌, ◌<◌, ◌≤◌, ◌&&◌, Bool, true, false, List, [], ◌∷◌, ◌++◌, length, Option, None, Some, is_some, nat_eq, nat_le, nat_lt, if◌then◌else◌, refl, ap, sym, ◌∙◌, arith}
use Rattle.std.specs.Option.{option_map}
use Rattle.std.proofs.lemmas.Bool.{false≢true}
use Rattle.std.proofs.lemmas.Bool.Decides.{nat_tests}
use Rattle.std.proofs.lemmas.List.{length-append}
use Rattle.std.proofs.lemmas.Option.{none-some, same_Some}
use Rattle.tpol_base.specs.declared.digest.Digest32.{Digest32}
use Rattle.tpol_base.specs.Handle.{is_policy_session}
use Rattle.tpol_base.specs.ResponseCode.{of_parameter, rc_handle, rc_integrity}
use Rattle.tpol_name.specs.declared.setup.Setup.{Setup}
use Rattle.tpol_tree.specs.declared.facts.Fact.{Fact}
use Rattle.tpol_wire.specs.declared.command.Command.TheVariants as commands
use Rattle.tpol_base.specs.Digest.{is_same_digest}
use Rattle.tpm_bindings.specs.State.{SessionState}
use Rattle.tpm_context.specs.Saved.{has_sequence}
use Rattle.tpm_rules.specs.Rule.{or_else, unless}
use Rattle.tpm_session.specs.Kept.{counter_after as first_counter}
use Rattle.tpm_session.specs.Slots.{content_at, first_handle, is_live, slot_count, state_at}
use Rattle.tpol_wire.specs.Handles.{handles_of}
use Rattle.tpm_world.specs.Hashes.{context_mac, nonce_of_event, proof_of}
use Rattle.tpm_engine.specs.declared.event.Event.{Event}
use Rattle.tpm_engine.specs.Answers.{early_stop, own_rule}
use Rattle.tpm_engine.specs.Authorization.{authorization_stop}
use Rattle.tpm_engine.specs.Deeds.{Deed, Resets, Starts, Ends, Restarts, Saves, Loads, Shows, SessionUse, area_use, deed_of, use_of}
use Rattle.tpm_engine.specs.Legal.{IsAnswered, IsLegal}
use Rattle.tpm_engine.specs.SavedSessions.{has_save, is_save}
use Rattle.tpm_engine.specs.SessionCommands.{session_rule}
use Rattle.tpm_engine.specs.Stops.{handles_stop, refuses, room_stop, session_stop}
use Rattle.tpm_engine.specs.Facts.{Moment}
use Rattle.tpm_engine.specs.Views.{counter_after, counter_of, counter_used, facts_after, facts_of, facts_used, held_after, held_used, is_held, moment_of, nonce_after, nonce_of, nonce_used, start_after, start_of, time_of, live_at, live_slot, next_number, saved_at, saved_slot, sequence_after, sequence_of, session_state, view_of}
use Rattle.tpm_engine.proofs.DeedsOf.{acting, acts-by, loaded, loads-by, saves-by, saving}
use Rattle.tpm_engine.proofs.Lookups.{content-table, is_slot_handle, live-view}
use Rattle.tpm_engine.proofs.PcrsChanged.{or-false}
use Rattle.tpm_engine.proofs.Stopping.{found, map-none, or_else-none, unless-none}
use Rattle.tpm_engine.proofs.Succeeding.{carried-out, handles-there, used-live, used_by}

-- ---- a load finds the session saved

pub record IsSavedAs (past : List Event) (session number : ℕ) : Type 0 where
  pub held : is_held past session ≡ true
  pub sequence : sequence_of past session ≡ Some number
  pub slot : is_slot_handle session ≡ true

saved-slot-is : (slot held : Bool) (sequence : Option ℕ) (state : SessionState) (number : ℕ)
    → has_sequence (if slot then saved_slot held sequence state else None) number ≡ true → (slot ≡ true) × ((held ≡ true) × (sequence ≡ Some number))
saved-slot-is true true (Some found) state number h = (refl, (refl, ap Some (grind (arith, nat_tests))))
saved-slot-is true true None state number h = absurd (false≢true h)
saved-slot-is true false sequence state number h = absurd (false≢true h)
saved-slot-is false held sequence state number h = absurd (false≢true h)

pub load-finds : (setup : Setup) (past : List Event) (event : Event) (session : ℕ) → IsAnswered setup past event → deed_of event ≡ Loads session
    → (sequence : ℕ) × IsSavedAs past session sequence
unfolding view_of
load-finds setup past event session answered loads =
    let it = carried-out setup past loaded session refl (λ ms. refl) (λ on. refl) refl event answered (ap loaded loads) in
    let load = loads-by it.command it.reply session (ap loaded (sym it.deed) ∙ ap loaded loads) in
    let own : own_rule (view_of setup past) it.command ≡ None =
    map-none refuses (own_rule (view_of setup past) it.command) (or_else-none (early_stop (view_of setup past) it.locality it.command) (option_map refuses (own_rule (view_of setup past) it.command)) it.first).1 in
    let rule : session_rule (view_of setup past) (commands.ContextLoad load.sequence session load.digest) ≡ None = ap (own_rule (view_of setup past)) (sym load.is) ∙ own in
    let found : has_sequence (content_at (view_of setup past).saved session) load.sequence ≡ true =
    unless-none (has_sequence (content_at (view_of setup past).saved session) load.sequence) (rc_handle + of_parameter 1)
    (or_else-none (unless (is_same_digest load.digest (context_mac (proof_of (view_of setup past).world.seed) load.sequence session)) (rc_integrity + of_parameter 1))
    (unless (has_sequence (content_at (view_of setup past).saved session) load.sequence) (rc_handle + of_parameter 1)) rule).1 in
    let parts = saved-slot-is (is_slot_handle session) (is_held past session) (sequence_of past session) (session_state setup past session) load.sequence
    (ap (λ content. has_sequence content load.sequence) (sym (content-table (saved_at setup past) session)) ∙ found) in
    (load.sequence, record { held = parts.1.0; sequence = parts.1.1; slot = parts.0 })

-- ---- between two loads there is a save

-- what is not saved stays so where no event saves it
sequence-none : (deed : Deed) (session number : ℕ) → is_save session deed ≡ false → sequence_after deed session number None ≡ None
sequence-none (Starts started) session number none = at (nat_eq started session)
  where
    at : (b : Bool) → ◌≡◌ {A = Option ℕ} (if b then None else None) None
    at true = refl
    at false = refl
sequence-none (Saves saved) session number none = ap (λ b. if b then Some number else None) none
sequence-none (Loads load) session number none = at (nat_eq load session)
  where
    at : (b : Bool) → ◌≡◌ {A = Option ℕ} (if b then None else None) None
    at true = refl
    at false = refl
sequence-none _ session number none = refl

same-number : (n : ℕ) → nat_eq n n ≡ true
same-number n = grind (arith, nat_tests)

stays-loaded : (middle past : List Event) (first : Event) (session : ℕ) → deed_of first ≡ Loads session → has_save session middle ≡ false → sequence_of (middle ++ first ∷ past) session ≡ None
unfolding sequence_of has_save
stays-loaded [] past first session loads none =
    ap (λ deed. sequence_after deed session (next_number past) (sequence_of past session)) loads
    ∙ ap (λ b. if b then None else sequence_of past session) (same-number session)
stays-loaded (event ∷ middle) past first session loads none =
    let parts = or-false (is_save session (deed_of event)) (has_save session middle) none in
    ap (sequence_after (deed_of event) session (next_number (middle ++ first ∷ past))) (stays-loaded middle past first session loads parts.1)
    ∙ sequence-none (deed_of event) session (next_number (middle ++ first ∷ past)) parts.0

pub saved-between : (setup : Setup) (past middle : List Event) (first second : Event) (session : ℕ)
    → IsLegal setup (second ∷ middle ++ first ∷ past) → deed_of first ≡ Loads session → deed_of second ≡ Loads session → has_save session middle ≡ true
unfolding IsLegal
saved-between setup past middle first second session legal loads again = at (has_save session middle) refl
  where
    at : (b : Bool) → has_save session middle ≡ b → has_save session middle ≡ true
    at true e = e
    at false e =
        let found = load-finds setup (middle ++ first ∷ past) second session legal.0 again in
        absurd (none-some found.0 (sym (stays-loaded middle past first session loads e) ∙ found.1.sequence))

-- ---- what is saved is as it was

-- a slot's handle is that of a policy session
pub slot-kind : (session : ℕ) → is_slot_handle session ≡ true → is_policy_session session ≡ true
slot-kind session slot =
    let parts = both (nat_le first_handle session) (nat_lt (session - first_handle) slot_count) slot in
    let low : 0x03000000 ≤ session = grind (arith, nat_tests) in
    let high : session - 0x03000000 < 64 = grind (arith, nat_tests) in
    let range : session / 2 ^ 24 ≡ 3 = omega (arith, low, high) in
    rw range refl
  where
    both : (a b : Bool) → (a && b) ≡ true → (a ≡ true) × (b ≡ true)
    both true b h = (refl, h)
    both false b h = absurd (false≢true h)

-- a session that is saved is not live
not-live : (setup : Setup) (past : List Event) (session number : ℕ) → IsSavedAs past session number → is_live (view_of setup past).sessions session ≡ false
unfolding view_of
not-live setup past session number saved =
    ap is_some (content-table (live_at setup past) session)
    ∙ (ap (λ b. is_some (if b then live_at setup past session else None)) saved.slot
    ∙ (ap (λ held. is_some (live_slot held (sequence_of past session) (session_state setup past session))) saved.held
    ∙ ap (λ sequence. is_some (live_slot true sequence (session_state setup past session))) saved.sequence))

-- ---- what touches the state of a session

abbrev touches : Deed → ℕ → Bool
touches (Starts started) session = nat_eq started session
touches (Restarts restarted) session = nat_eq restarted session
touches (Shows shown fact) session = nat_eq shown session
touches Resets session = true
touches _ session = false

-- a state after a deed and a use
abbrev state_after : Deed → Option SessionUse → ℕ → ℕ → Digest32 → Moment → SessionState → SessionState
state_after deed used session time fresh now state = record {
  start = start_after deed session time state.start;
  nonce = nonce_used used session fresh (nonce_after deed session fresh state.nonce);
  facts = facts_used used session (facts_after deed session now state.facts);
  counter = counter_used used session (counter_after deed session now state.counter);
}

abbrev used-parts : Option SessionUse → ℕ → Digest32 → ℕ → Digest32 → List Fact → Option ℕ → SessionState
used-parts used session fresh start nonce facts counter = record {
  start = start;
  nonce = nonce_used used session fresh nonce;
  facts = facts_used used session facts;
  counter = counter_used used session counter;
}

state-unused : (used : Option SessionUse) (session : ℕ) (fresh : Digest32) (state : SessionState) → used_by session used ≡ false
    → ◌≡◌ {A = SessionState} (record { start = state.start; nonce = nonce_used used session fresh state.nonce; facts = facts_used used session state.facts; counter = counter_used used session state.counter }) state
state-unused None session fresh state free = refl
state-unused (Some served) session fresh state free = at (nat_eq served.session session) free
  where
    at : (b : Bool) → b ≡ false
        → ◌≡◌ {A = SessionState} (record { start = state.start; nonce = if b then fresh else state.nonce; facts = if b then [] else state.facts; counter = if b then None else state.counter }) state
    at true h = absurd (false≢true (sym h))
    at false h = refl

state-quiet : (deed : Deed) (used : Option SessionUse) (session time : ℕ) (fresh : Digest32) (now : Moment) (state : SessionState)
    → touches deed session ≡ false → used_by session used ≡ false → state_after deed used session time fresh now state ≡ state
state-quiet Resets used session time fresh now state calm free = absurd (false≢true (sym calm))
state-quiet (Starts started) used session time fresh now state calm free =
    ap (λ b. used-parts used session fresh (if b then time else state.start) (if b then fresh else state.nonce) (if b then [] else state.facts) (if b then None else state.counter)) calm
    ∙ state-unused used session fresh state free
state-quiet (Restarts restarted) used session time fresh now state calm free =
    ap (λ b. used-parts used session fresh state.start state.nonce (if b then [] else state.facts) (if b then None else state.counter)) calm
    ∙ state-unused used session fresh state free
state-quiet (Shows shown fact) used session time fresh now state calm free =
    ap (λ b. used-parts used session fresh state.start state.nonce (if b then state.facts ++ fact now ∷ [] else state.facts) (if b then first_counter state.counter (fact now).act now.world.pcrs.counter else state.counter)) calm
    ∙ state-unused used session fresh state free
state-quiet _ used session time fresh now state calm free = state-unused used session fresh state free

-- an event that leaves the session saved as it was, where nothing acts on it, touches nothing of it
saved-calm : (deed : Deed) (used : Option SessionUse) (session number kept : ℕ) (held : Bool) (sequence : Option ℕ)
    → held_used used session (held_after deed session held) ≡ true → sequence_after deed session number sequence ≡ Some kept
    → (acting deed ≡ Some session → ⊥) → touches deed session ≡ false
saved-calm Resets used session number kept held sequence stays same free = absurd (false≢true (sym (never used) ∙ stays))
  where
    never : (u : Option SessionUse) → held_used u session false ≡ false
    never None = refl
    never (Some served) = at (nat_eq served.session session) served.keep
      where
        at : (b keep : Bool) → (if b then keep && false else false) ≡ false
        at true true = refl
        at true false = refl
        at false keep = refl
saved-calm (Starts started) used session number kept held sequence stays same free = at (nat_eq started session) same
  where
    at : (b : Bool) → (if b then None else sequence) ≡ Some kept → b ≡ false
    at true h = absurd (none-some kept h)
    at false h = refl
saved-calm (Restarts restarted) used session number kept held sequence stays same free = at (nat_eq restarted session) refl
  where
    at : (b : Bool) → nat_eq restarted session ≡ b → b ≡ false
    at true e = absurd (free (ap Some (grind (arith, nat_tests))))
    at false e = refl
saved-calm (Shows shown fact) used session number kept held sequence stays same free = at (nat_eq shown session) refl
  where
    at : (b : Bool) → nat_eq shown session ≡ b → b ≡ false
    at true e = absurd (free (ap Some (grind (arith, nat_tests))))
    at false e = refl
saved-calm _ used session number kept held sequence stays same free = refl

-- it was saved so before, where this is not the event that saved it
held-before : (used : Option SessionUse) (session : ℕ) (held : Bool) → held_used used session held ≡ true → held ≡ true
held-before None session held h = h
held-before (Some served) session held h = at (nat_eq served.session session) served.keep h
  where
    at : (b keep : Bool) → (if b then keep && held else held) ≡ true → held ≡ true
    at true true h = h
    at true false h = absurd (false≢true h)
    at false keep h = h

held-earlier : (deed : Deed) (session number kept : ℕ) (held : Bool) (sequence : Option ℕ) → held_after deed session held ≡ true → sequence_after deed session number sequence ≡ Some kept → held ≡ true
held-earlier Resets session number kept held sequence h same = absurd (false≢true h)
held-earlier (Starts started) session number kept held sequence h same = at (nat_eq started session) h same
  where
    at : (b : Bool) → (if b then true else held) ≡ true → (if b then None else sequence) ≡ Some kept → held ≡ true
    at true h same = absurd (none-some kept same)
    at false h same = h
held-earlier (Ends ended) session number kept held sequence h same = at (nat_eq ended session) h
  where
    at : (b : Bool) → (if b then false else held) ≡ true → held ≡ true
    at true h = absurd (false≢true h)
    at false h = h
held-earlier _ session number kept held sequence h same = h

sequence-earlier : (deed : Deed) (session number kept : ℕ) (sequence : Option ℕ) → sequence_after deed session number sequence ≡ Some kept → number ≢ kept → sequence ≡ Some kept
sequence-earlier (Starts started) session number kept sequence h other = at (nat_eq started session) h
  where
    at : (b : Bool) → (if b then None else sequence) ≡ Some kept → sequence ≡ Some kept
    at true h = absurd (none-some kept h)
    at false h = h
sequence-earlier (Saves saved) session number kept sequence h other = at (nat_eq saved session) h
  where
    at : (b : Bool) → (if b then Some number else sequence) ≡ Some kept → sequence ≡ Some kept
    at true h = absurd (other (same_Some _ _ h))
    at false h = h
sequence-earlier (Loads load) session number kept sequence h other = at (nat_eq load session) h
  where
    at : (b : Bool) → (if b then None else sequence) ≡ Some kept → sequence ≡ Some kept
    at true h = absurd (none-some kept h)
    at false h = h
sequence-earlier _ session number kept sequence h other = h

module _ (setup : Setup) (session : ℕ) where
  -- a session that an event acts on is live
  acting-live : (past : List Event) (event : Event) → IsAnswered setup past event → is_slot_handle session ≡ true → acting (deed_of event) ≡ Some session
      → is_live (view_of setup past).sessions session ≡ true
  acting-live past event answered slot acts =
      let it = carried-out setup past acting session refl (λ ms. refl) (λ on. refl) refl event answered acts in
      let early = (or_else-none (early_stop (view_of setup past) it.locality it.command) (option_map refuses (own_rule (view_of setup past) it.command)) it.first).0 in
      let handles = (or_else-none (handles_stop (view_of setup past) it.command)
      (or_else (session_stop (view_of setup past) it.command) (or_else (authorization_stop (view_of setup past) it.locality it.command) (room_stop (view_of setup past) it.command))) early).0 in
      handles-there (view_of setup past) 1 (handles_of it.command) session (slot-kind session slot) handles
      (acts-by it.command it.reply session (ap acting (sym it.deed) ∙ acts))

  module _ (past : List Event) (event : Event) (number : ℕ) (answered : IsAnswered setup past event) (saved : IsSavedAs past session number) where
    -- nothing acts on a saved session, and nothing is served through it
    saved-free : acting (deed_of event) ≡ Some session → ⊥
    saved-free acts = false≢true (sym (not-live setup past session number saved) ∙ acting-live past event answered saved.slot acts)

    saved-unused : used_by session (use_of event) ≡ false
    saved-unused = at (used_by session (use_of event)) refl
      where
        at : (b : Bool) → used_by session (use_of event) ≡ b → b ≡ false
        at true e = absurd (false≢true (sym (not-live setup past session number saved) ∙ used-live setup past session event answered e))
        at false e = refl

    saved-step : touches (deed_of event) session ≡ false → session_state setup (event ∷ past) session ≡ session_state setup past session
    unfolding session_state start_of nonce_of facts_of counter_of
    saved-step calm =
        state-quiet (deed_of event) (use_of event) session (time_of setup past) (nonce_of_event setup.seed (next_number past)) (moment_of setup past session) (session_state setup past session)
        calm saved-unused

  -- it was saved before, where it still is and this is not the event that saved it
  saved-back : (past : List Event) (event : Event) (number : ℕ) → IsSavedAs (event ∷ past) session number → next_number past ≢ number → IsSavedAs past session number
  unfolding is_held sequence_of
  saved-back past event number saved other = record {
    held = held-earlier (deed_of event) session (next_number past) number (is_held past session) (sequence_of past session)
        (held-before (use_of event) session (held_after (deed_of event) session (is_held past session)) saved.held) saved.sequence;
    sequence = sequence-earlier (deed_of event) session (next_number past) number (sequence_of past session) saved.sequence other;
    slot = saved.slot;
  }

  still-calm : (past : List Event) (event : Event) (number : ℕ) → IsAnswered setup past event → IsSavedAs (event ∷ past) session number → IsSavedAs past session number
      → touches (deed_of event) session ≡ false
  unfolding is_held sequence_of
  still-calm past event number answered saved before =
      saved-calm (deed_of event) (use_of event) session (next_number past) number (is_held past session) (sequence_of past session)
      saved.held saved.sequence (saved-free past event number answered before)

  -- the event that saved it changed nothing else of it
  save-unused : (past : List Event) (save : Event) → IsAnswered setup past save → deed_of save ≡ Saves session → used_by session (use_of save) ≡ false
  save-unused past save answered saves =
      let it = carried-out setup past saving session refl (λ ms. refl) (λ on. refl) refl save answered (ap saving saves) in
      ap (used_by session) (it.uses ∙ ap (λ area. if it.served then area_use area else None) (saves-by it.command it.reply session (ap saving (sym it.deed) ∙ ap saving saves)))
      ∙ at it.served
    where
      at : (b : Bool) → used_by session (if b then None else None) ≡ false
      at true = refl
      at false = refl

  save-step : (past : List Event) (save : Event) → IsAnswered setup past save → deed_of save ≡ Saves session → session_state setup (save ∷ past) session ≡ session_state setup past session
  unfolding session_state start_of nonce_of facts_of counter_of
  save-step past save answered saves =
      state-quiet (deed_of save) (use_of save) session (time_of setup past) (nonce_of_event setup.seed (next_number past)) (moment_of setup past session) (session_state setup past session)
      (ap (λ deed. touches deed session) saves) (save-unused past save answered saves)

  saved-state : (past middle : List Event) (save : Event) → IsLegal setup (middle ++ save ∷ past) → deed_of save ≡ Saves session → IsSavedAs (middle ++ save ∷ past) session (next_number past)
      → session_state setup (middle ++ save ∷ past) session ≡ session_state setup past session
  unfolding IsLegal
  saved-state past [] save legal saves saved = save-step past save legal.0 saves
  saved-state past (event ∷ middle) save legal saves saved =
      let other : next_number (middle ++ save ∷ past) ≢ next_number past = λ same. apart (length middle) (length past) (sym (length-append middle (save ∷ past)) ∙ one-more (length (middle ++ save ∷ past)) (length past) same) in
      let before = saved-back (middle ++ save ∷ past) event (next_number past) saved other in
      saved-step (middle ++ save ∷ past) event (next_number past) legal.0 before (still-calm (middle ++ save ∷ past) event (next_number past) legal.0 saved before)
      ∙ saved-state past middle save legal.1 saves before
    where
      one-more : (a b : ℕ) → a + 1 ≡ b + 1 → a ≡ b
      one-more a b same = omega (arith, same)

      apart : (a b : ℕ) → a + suc b ≡ b → ⊥
      apart a b same = absurd (omega (arith, same))

  held-unused : (used : Option SessionUse) (held : Bool) → used_by session used ≡ false → held_used used session held ≡ held
  held-unused None held free = refl
  held-unused (Some served) held free = ap (λ b. if b then served.keep && held else held) free

  loaded-live : (past : List Event) (load : Event) → deed_of load ≡ Loads session → is_held past session ≡ true → is_slot_handle session ≡ true → used_by session (use_of load) ≡ false
      → state_at (view_of setup (load ∷ past)).sessions session ≡ Some (session_state setup (load ∷ past) session)
  unfolding view_of is_held sequence_of
  loaded-live past load loads held slot free =
      content-table (live_at setup (load ∷ past)) session
      ∙ (ap (λ b. if b then live_at setup (load ∷ past) session else None) slot
      ∙ (ap (λ h. live_slot h (sequence_of (load ∷ past) session) (session_state setup (load ∷ past) session))
      (held-unused (use_of load) (held_after (deed_of load) session (is_held past session)) free ∙ (ap (λ deed. held_after deed session (is_held past session)) loads ∙ held))
      ∙ ap (λ q. live_slot true q (session_state setup (load ∷ past) session))
      (ap (λ deed. sequence_after deed session (next_number past) (sequence_of past session)) loads
      ∙ ap (λ b. if b then None else sequence_of past session) (same-number session))))

  live-before : (past : List Event) (save : Event) → IsAnswered setup past save → deed_of save ≡ Saves session → is_slot_handle session ≡ true
      → state_at (view_of setup past).sessions session ≡ Some (session_state setup past session)
  live-before past save answered saves slot =
      let it = found (state_at (view_of setup past).sessions session) (acting-live past save answered slot (ap acting saves)) in
      it.is ∙ ap Some (live-view setup past session it.value it.is)

  save-legal : (past middle : List Event) (save : Event) → IsLegal setup (middle ++ save ∷ past) → IsAnswered setup past save
  unfolding IsLegal
  save-legal past [] save legal = legal.0
  save-legal past (event ∷ middle) save legal = save-legal past middle save legal.1

  pub came-back : (past middle : List Event) (save load : Event) → IsLegal setup (load ∷ middle ++ save ∷ past) → deed_of save ≡ Saves session → deed_of load ≡ Loads session
      → sequence_of (middle ++ save ∷ past) session ≡ Some (next_number past)
      → state_at (view_of setup (load ∷ middle ++ save ∷ past)).sessions session ≡ state_at (view_of setup past).sessions session
  unfolding IsLegal
  came-back past middle save load legal saves loads sequence =
      let found = load-finds setup (middle ++ save ∷ past) load session legal.0 loads in
      let saved : IsSavedAs (middle ++ save ∷ past) session (next_number past) = record { held = found.1.held; sequence = sequence; slot = found.1.slot } in
      let calm : touches (deed_of load) session ≡ false = ap (λ deed. touches deed session) loads in
      let state = saved-step (middle ++ save ∷ past) load (next_number past) legal.0 saved calm ∙ saved-state past middle save legal.1 saves saved in
      loaded-live (middle ++ save ∷ past) load loads saved.held saved.slot (saved-unused (middle ++ save ∷ past) load (next_number past) legal.0 saved)
      ∙ (ap Some state ∙ sym (live-before past save (save-legal past middle save legal.1) saves saved.slot))

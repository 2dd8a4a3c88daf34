-- What is found in the views' tables at a handle.
use Rattle.std.proofs.Common.{◌≡◌, ℕ, zero, suc, ◌-◌, ◌≤◌, ◌&&◌, Bool, true, false, List, Option, None, Some, is_some, nat_le, nat_lt, if◌then◌else◌, refl, ap, sym, ◌∙◌, arith}
use Rattle.std.proofs.lemmas.Bool.{false≢true}
use Rattle.std.proofs.lemmas.Bool.Decides.{nat_tests}
use Rattle.std.proofs.lemmas.Option.{none-some, same_Some}
use Rattle.tpol_name.specs.declared.setup.Setup.{Setup}
use Rattle.tpm_bindings.specs.State.{SessionState}
use Rattle.tpm_context.specs.Saved.{AreApart}
use Rattle.tpm_session.specs.Slots.{content_at, first_handle, handle_of_slot, in_slot, slot_count, state_at}
use Rattle.tpm_engine.specs.declared.event.Event.{Event}
use Rattle.tpm_engine.specs.Views.{is_held, live_at, live_slot, saved_at, saved_slot, sequence_of, session_state, table, view_of}

in_slot-table : {A : Type 0} (n slot : ℕ) (f : ℕ → Option A) → in_slot (table n f) slot ≡ (if nat_lt slot n then f slot else None)
unfolding table
in_slot-table zero slot f = let past : nat_lt slot 0 ≡ false = grind (arith, nat_tests) in rw past refl
in_slot-table (suc n) zero f = let within : nat_lt 0 (suc n) ≡ true = grind (arith, nat_tests) in rw within refl
in_slot-table (suc n) (suc slot) f =
    let same : nat_lt (suc slot) (suc n) ≡ nat_lt slot n = grind (arith, nat_tests) in
    rw same (in_slot-table n slot (λ k. f (suc k)))

-- whether a handle is that of a slot
abbrev pub is_slot_handle : ℕ → Bool
is_slot_handle handle = nat_le first_handle handle && nat_lt (handle - first_handle) slot_count

pub content-table : {A : Type 0} (f : ℕ → Option A) (handle : ℕ)
    → content_at (table slot_count (λ k. f (handle_of_slot k))) handle ≡ (if is_slot_handle handle then f handle else None)
content-table {A} f handle = at (nat_le first_handle handle) refl
  where
    at : (b : Bool) → nat_le first_handle handle ≡ b
        → (if b then in_slot (table slot_count (λ k. f (handle_of_slot k))) (handle - first_handle) else None)
        ≡ (if b && nat_lt (handle - first_handle) slot_count then f handle else None)
    at true e =
        let low : first_handle ≤ handle = grind (arith, nat_tests) in
        let back : handle_of_slot (handle - first_handle) ≡ handle = omega arith in
        in_slot-table slot_count (handle - first_handle) (λ k. f (handle_of_slot k))
        ∙ ap (λ h. if nat_lt (handle - first_handle) slot_count then f h else None) back
    at false e = refl

-- what is found there is what the table was made of
pub found-table : {A : Type 0} (f : ℕ → Option A) (handle : ℕ) (x : A)
    → content_at (table slot_count (λ k. f (handle_of_slot k))) handle ≡ Some x → f handle ≡ Some x
found-table {A} f handle x found = at (is_slot_handle handle) (sym (content-table f handle) ∙ found)
  where
    at : (b : Bool) → (if b then f handle else None) ≡ Some x → f handle ≡ Some x
    at true h = h
    at false h = absurd (none-some x h)

live-state : (held : Bool) (sequence : Option ℕ) (state found : SessionState) → live_slot held sequence state ≡ Some found → found ≡ state
live-state true None state found h = sym (same_Some _ _ h)
live-state true (Some number) state found h = absurd (none-some found h)
live-state false sequence state found h = absurd (none-some found h)

-- a live session has the state that the views tell
pub live-view : (setup : Setup) (past : List Event) (session : ℕ) (state : SessionState)
    → state_at (view_of setup past).sessions session ≡ Some state → state ≡ session_state setup past session
unfolding view_of
live-view setup past session state found =
    live-state (is_held past session) (sequence_of past session) (session_state setup past session) state
    (found-table (live_at setup past) session state found)

apart-slots : (b held : Bool) (sequence : Option ℕ) (state : SessionState)
    → is_some (if b then live_slot held sequence state else None) ≡ true → is_some (if b then saved_slot held sequence state else None) ≡ false
apart-slots true true None state live = refl
apart-slots true true (Some number) state live = absurd (false≢true live)
apart-slots true false sequence state live = absurd (false≢true live)
apart-slots false held sequence state live = absurd (false≢true live)

-- no session is both live and saved
pub apart-view : (setup : Setup) (past : List Event) → AreApart (view_of setup past).sessions (view_of setup past).saved
unfolding view_of
apart-view setup past session live =
    ap is_some (content-table (saved_at setup past) session)
    ∙ apart-slots (is_slot_handle session) (is_held past session) (sequence_of past session) (session_state setup past session)
    (ap is_some (sym (content-table (live_at setup past) session)) ∙ live)

-- ---- writes that change nothing

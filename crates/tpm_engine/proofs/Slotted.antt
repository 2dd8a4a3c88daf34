-- Slots: one write that changes nothing, and sessions that stay apart.
use Rattle.std.proofs.Common.{◌≡◌, ℕ, zero, suc, ◌+◌, ◌-◌, ◌==◌, true, false, List, [], ◌∷◌, get_or, set, replicate, Option, None, Some, is_some, nat_le, if◌then◌else◌, refl, ap, sym, ◌∙◌}
use Rattle.std.specs.Int.{bit_at}
use Rattle.std.specs.Option.{option_map}
use Rattle.std.specs.Prelude.{not}
use Rattle.std.proofs.lemmas.Bool.{false≢true}
use Rattle.std.proofs.lemmas.Option.{none-some}
use Rattle.tpm_bindings.specs.State.{SessionState}
use Rattle.tpm_context.specs.Saved.{AreApart, SavedState, is_saved}
use Rattle.tpm_session.specs.Slots.{bit_of, bits_of, changed_at, content_at, first_handle, in_slot, is_live, session_at, session_of, state_at, with_content}
use Rattle.tpm_session.proofs.Bits.{bit_at-bits, content-handle}
use Rattle.tpm_world.specs.World.{WorldState}
use Rattle.tpm_engine.specs.Tables.{TableState, saved_changed, with_changed}

set-get : {A : Type 0} (slots : List (Option A)) (slot : ℕ) → set slots slot (get_or slots slot None) ≡ slots
set-get [] slot = refl
set-get (content ∷ rest) zero = refl
set-get (content ∷ rest) (suc slot) = ap (λ slots. content ∷ slots) (set-get rest slot)

-- what a slot has is written there again
pub content-same : {A : Type 0} (slots : List (Option A)) (handle : ℕ) → with_content slots handle (content_at slots handle) ≡ slots
content-same slots handle =
    elim (nat_le first_handle handle) as (λ b. (if b then set slots (handle - first_handle) (if b then in_slot slots (handle - first_handle) else None) else slots) ≡ slots)
    [ true ↦ set-get slots (handle - first_handle) | false ↦ refl ]

pub emptied-same : {A : Type 0} (slots : List (Option A)) (handle : ℕ) → content_at slots handle ≡ None → with_content slots handle None ≡ slots
emptied-same slots handle none = ap (with_content slots handle) (sym none) ∙ content-same slots handle

pub none-of : {A : Type 0} (o : Option A) → is_some o ≡ false → o ≡ None
none-of None h = refl
none-of (Some x) h = absurd (false≢true (sym h))

-- a live session is not saved, and a saved one is not live
pub unsaved : (live : List (Option SessionState)) (saved : List (Option SavedState)) (handle : ℕ) → AreApart live saved → is_live live handle ≡ true → content_at saved handle ≡ None
unsaved live saved handle apart there = none-of (content_at saved handle) (apart handle there)

-- ---- the tables after a change of a live session

abbrev pub tables_of : WorldState → List (Option SessionState) → List (Option SavedState) → TableState
tables_of world sessions saved = record { world = world; sessions = sessions; saved = saved }

pub changed-live : (tables : TableState) (handle : ℕ) (change : SessionState → SessionState) → AreApart tables.sessions tables.saved → is_live tables.sessions handle ≡ true
    → tables_of tables.world (changed_at tables.sessions handle change) tables.saved ≡ with_changed tables handle change
changed-live tables handle change apart live =
    let none = unsaved tables.sessions tables.saved handle apart live in
    ap (tables_of tables.world (changed_at tables.sessions handle change))
    (sym (ap (λ content. with_content tables.saved handle (option_map (saved_changed change) content)) none ∙ emptied-same tables.saved handle none))

-- slots that were all emptied have nothing
get-empty : {A : Type 0} (count slot : ℕ) → ◌≡◌ {A = Option A} (get_or (replicate count None) slot None) None
get-empty zero slot = refl
get-empty (suc count) zero = refl
get-empty (suc count) (suc slot) = get-empty count slot

pub content-empty : {A : Type 0} (count handle : ℕ) → ◌≡◌ {A = Option A} (content_at (replicate count None) handle) None
content-empty {A} count handle =
    elim (nat_le first_handle handle) as (λ b. ◌≡◌ {A = Option A} (if b then in_slot (replicate count None) (handle - first_handle) else None) None)
    [ true ↦ get-empty count (handle - first_handle) | false ↦ refl ]

-- where no session is found there is none
pub not-found : (slots : List (Option SessionState)) (handle : ℕ) → None ≡ session_at slots handle → state_at slots handle ≡ None
not-found slots handle h = at (state_at slots handle) h
  where
    at : (o : Option SessionState) → None ≡ option_map (session_of handle) o → o ≡ None
    at None h = refl
    at (Some state) h = absurd (none-some (session_of handle state) h)

-- ---- a slot without a saved session

zero-bit : (content : Option SavedState) → not (is_some content) ≡ (bit_of content == 0)
zero-bit None = refl
zero-bit (Some saved) = refl

pub unsaved_bit : (saved : List (Option SavedState)) (slot : ℕ) → not (is_saved saved (first_handle + slot)) ≡ (bit_at (bits_of saved) slot == 0)
unsaved_bit saved slot =
    ap (λ content. not (is_some content)) (content-handle saved slot)
    ∙ (zero-bit (in_slot saved slot) ∙ sym (ap (λ bit. bit == 0) (bit_at-bits saved slot)))

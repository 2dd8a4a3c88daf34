-- Saved sessions as contracts see them: slots, each with the sequence number of its context and the state of
-- the session, or free.
use Rattle.std.specs.Prelude.{◌≡◌, ℕ, ◌==◌, Bool, true, false, List, Option, Some, None, is_some}
use Rattle.tpm_bindings.specs.State.{SessionState}
use Rattle.tpm_session.specs.Slots.{content_at, session_of, is_live}
use Rattle.tpm_context.specs.declared.saved_session.SavedSession.{SavedSession}

pub record SavedState : Type 0 where
  -- the sequence number of the context
  pub sequence : ℕ
  pub state : SessionState

-- what is kept of a session that is saved
abbrev pub saved_of : ℕ → SavedState → SavedSession
saved_of handle saved = record { sequence = saved.sequence; session = session_of handle saved.state }

abbrev pub saved_state : SavedSession → SavedState
saved_state saved = record { sequence = saved.sequence; state = saved.session.state }

-- whether a handle is saved
abbrev pub is_saved : List (Option SavedState) → ℕ → Bool
is_saved slots handle = is_some (content_at slots handle)

-- whether what is saved has this sequence number
abbrev pub has_sequence : Option SavedState → ℕ → Bool
has_sequence None sequence = false
has_sequence (Some saved) sequence = saved.sequence == sequence

-- no handle is both live and saved
abbrev pub AreApart : List (Option SessionState) → List (Option SavedState) → Type 0
AreApart live saved = (handle : ℕ) → is_live live handle ≡ true → is_saved saved handle ≡ false

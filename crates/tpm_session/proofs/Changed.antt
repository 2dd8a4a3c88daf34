-- A session that is changed where it lies.
use Rattle.std.proofs.Common.{◌≡◌, ℕ, List, Option, None, Some, refl, ap, sym, subst, ◌∙◌}
use Rattle.std.specs.Prelude.{MatchOption}
use Rattle.std.specs.Option.{option_map}
use Rattle.tpm_bindings.specs.State.{SessionState}
use Rattle.tpm_session.specs.Kept.{SessionView, state_of_view}
use Rattle.tpm_session.specs.Slots.{content_at, with_content, state_at, session_at, session_of, with_state}
use Rattle.tpm_session.specs.Numbered.{plain, IsNumbered}
use Rattle.tpm_session.proofs.Numbered.{content-numbered, with-numbered, numbered-is, numbered-plain}

-- a table that shows these slots has a session there where they have
pub session-found : (table : List (Option SessionView)) (slots : List (Option SessionState)) (handle : ℕ)
    → IsNumbered session_of state_of_view table → plain state_of_view table ≡ slots → content_at table handle ≡ session_at slots handle
session-found table slots handle is shows = content-numbered session_of state_of_view table handle is ∙ ap (λ s. session_at s handle) shows

module _ (table new : List (Option SessionView)) (slots : List (Option SessionState)) (handle : ℕ) (Gives : SessionView → SessionView → Type 0) where
  -- what a change of what is found makes of the table
  abbrev pub InTable : Option SessionView → Type 0
  InTable found = MatchOption found (new ≡ table) (λ before. (after : SessionView) × Gives before after × (new ≡ with_content table handle (Some after)))

  -- and of the slots
  abbrev pub InSlots : Option SessionView → Type 0
  InSlots found = MatchOption found (plain state_of_view new ≡ slots) (λ before. (after : SessionView) × Gives before after × (plain state_of_view new ≡ with_state slots handle (Some after.state)))

  -- where the handle stays, the sessions are numbered as before
  pub changed-table : IsNumbered session_of state_of_view table → plain state_of_view table ≡ slots
      → ((before after : SessionView) → session_at slots handle ≡ Some before → Gives before after → after.handle ≡ before.handle)
      → InTable (content_at table handle) → IsNumbered session_of state_of_view new × InSlots (session_at slots handle)
  changed-table is shows stays changed = at (state_at slots handle) refl (subst InTable (session-found table slots handle is shows) changed)
    where
      at : (content : Option SessionState) → state_at slots handle ≡ content → InTable (option_map (session_of handle) content)
          → IsNumbered session_of state_of_view new × InSlots (option_map (session_of handle) content)
      at None e same = (subst (IsNumbered session_of state_of_view) (sym same) is, ap (plain state_of_view) same ∙ shows)
      at (Some state) e (after, gave, made) =
          let kept : after.handle ≡ handle = stays (session_of handle state) after (ap (option_map (session_of handle)) e) gave in
          let numbered = made
          ∙ (ap (λ h. with_content table handle (Some (session_of h after.state))) kept
          ∙ with-numbered session_of state_of_view (λ handle a. refl) table handle (Some after.state) is) in
          let plainly = with_content (plain state_of_view table) handle (Some after.state) in
          (numbered-is session_of state_of_view (λ handle a. refl) new plainly numbered, (after, gave, numbered-plain session_of state_of_view (λ handle a. refl) new plainly numbered ∙ ap (λ s. with_state s handle (Some after.state)) shows))

-- Saving and loading keep live and saved sessions apart, and what is found among the saved ones.
use Rattle.std.proofs.Common.{◌≡◌, ◌≢◌, ℕ, ⊎_elim, true, false, List, Option, None, Some, is_some, ap, sym, ◌∙◌}
use Rattle.std.specs.Option.{option_map}
use Rattle.std.proofs.lemmas.Bool.{cases_eq, false≢true}
use Rattle.std.proofs.lemmas.Option.{none-some, same_Some}
use Rattle.tpm_bindings.specs.State.{SessionState}
use Rattle.tpm_session.specs.Slots.{content_at, with_content, with_state, is_live}
use Rattle.tpm_session.proofs.Slots.{content-other, content-emptied}
use Rattle.tpm_context.specs.declared.saved_session.SavedSession.{SavedSession}
use Rattle.tpm_context.specs.Saved.{SavedState, AreApart, is_saved, saved_of, saved_state}

apart-other : (live : List (Option SessionState)) (saved : List (Option SavedState)) (handle other : ℕ) (to : Option SessionState) (from : Option SavedState) → AreApart live saved → other ≢ handle
    → is_live (with_state live handle to) other ≡ true → is_saved (with_content saved handle from) other ≡ false
apart-other live saved handle other to from apart away there =
    ap is_some (content-other saved handle other from away)
    ∙ apart other (ap is_some (sym (content-other live handle other to away)) ∙ there)

pub apart-saved : (live : List (Option SessionState)) (saved : List (Option SavedState)) (handle : ℕ) (content : Option SavedState) → AreApart live saved → AreApart (with_state live handle None) (with_content saved handle content)
apart-saved live saved handle content apart other there =
    ⊎_elim
    (λ same. absurd (false≢true (sym (ap is_some (content-emptied live handle)) ∙ (ap (is_live (with_state live handle None)) (sym same) ∙ there))))
    (λ away. apart-other live saved handle other None content apart away there)
    (cases_eq other handle)

pub apart-loaded : (live : List (Option SessionState)) (saved : List (Option SavedState)) (handle : ℕ) (content : Option SessionState) → AreApart live saved → AreApart (with_state live handle content) (with_content saved handle None)
apart-loaded live saved handle content apart other there =
    ⊎_elim
    (λ same. ap (is_saved (with_content saved handle None)) same ∙ ap is_some (content-emptied saved handle))
    (λ away. apart-other live saved handle other content None apart away there)
    (cases_eq other handle)

-- what is found has the handle, and is in its slot
pub found-saved : (slots : List (Option SavedState)) (handle : ℕ) (saved : SavedSession) → Some saved ≡ option_map (saved_of handle) (content_at slots handle) → (saved.session.handle ≡ handle) × (content_at slots handle ≡ Some (saved_state saved))
found-saved slots handle saved found = at (content_at slots handle) found
  where
    at : (content : Option SavedState) → Some saved ≡ option_map (saved_of handle) content → (saved.session.handle ≡ handle) × (content ≡ Some (saved_state saved))
    at None h = absurd (none-some saved (sym h))
    at (Some state) h =
        let same = same_Some saved (saved_of handle state) h in
        (ap (λ s. s.session.handle) same, ap (λ (s : SavedSession). Some (saved_state s)) (sym same))

-- Slots: what a look-up tells, and one write after another.
use Rattle.std.proofs.Common.{◌≡◌, ◌≢◌, ℕ, suc, zero, ◌+◌, ◌-◌, ◌<◌, ◌≤◌, ⊎_elim, Bool, not, ◌&&◌, true, false, List, [], ◌∷◌, ◌++◌, length, set, drop, replicate, Option, None, Some, IfSome, is_some, nat_le, if◌then◌else◌, refl, ap, sym, subst, ◌∙◌, arith}
use Rattle.std.specs.Option.{option_map}
use Rattle.std.proofs.lemmas.Bool.{cases_lt, false≢true}
use Rattle.std.proofs.lemmas.Bool.Decides.{nat_tests}
use Rattle.std.proofs.lemmas.List.{set-set, get_or_past, get_or-set_other, get_or-set_same, length-set}
use Rattle.std.proofs.lemmas.Option.{none-some, same_Some}
use Rattle.tpm_bindings.specs.State.{SessionState}
use Rattle.tpm_session.specs.Kept.{SessionView}
use Rattle.tpm_session.specs.Slots.{first_handle, slot_count, in_slot, content_at, with_content, state_at, session_at, session_of, with_state, changed_at, is_free, IsSlotHandle}

-- a handle whose slot has something is that of a slot
pub content-slot : {A : Type 0} (slots : List (Option A)) (handle : ℕ) → length slots ≡ slot_count → is_some (content_at slots handle) ≡ true → IsSlotHandle handle
content-slot slots handle count there = at (nat_le first_handle handle) refl there
  where
    within : first_handle ≤ handle → is_some (in_slot slots (handle - first_handle)) ≡ true → IsSlotHandle handle
    within above some =
        ⊎_elim (λ below. (above, omega arith))
        (λ past. absurd (false≢true (sym (ap is_some (get_or_past slots (handle - first_handle) None past)) ∙ some)))
        (cases_lt (handle - first_handle) (length slots))

    at : (b : Bool) → nat_le first_handle handle ≡ b → is_some (if b then in_slot slots (handle - first_handle) else None) ≡ true → IsSlotHandle handle
    at true e some = within (grind (arith, nat_tests)) some
    at false e some = absurd (false≢true some)

pub with_content-twice : {A : Type 0} (slots : List (Option A)) (handle : ℕ) (first last : Option A) → with_content (with_content slots handle first) handle last ≡ with_content slots handle last
with_content-twice slots handle first last =
    elim (nat_le first_handle handle) as (λ b. (if b then set (if b then set slots (handle - first_handle) first else slots) (handle - first_handle) last else (if b then set slots (handle - first_handle) first else slots)) ≡ (if b then set slots (handle - first_handle) last else slots))
    [ true ↦ set-set slots (handle - first_handle) first last | false ↦ refl ]

-- other handles keep what they have, and an emptied one has nothing
pub content-other : {A : Type 0} (slots : List (Option A)) (handle other : ℕ) (content : Option A) → other ≢ handle → content_at (with_content slots handle content) other ≡ content_at slots other
content-other {A} slots handle other content apart = at (nat_le first_handle other) refl (nat_le first_handle handle) refl
  where
    at : (b : Bool) → nat_le first_handle other ≡ b → (d : Bool) → nat_le first_handle handle ≡ d
        → ◌≡◌ {A = Option A} (if b then in_slot (if d then set slots (handle - first_handle) content else slots) (other - first_handle) else None) (if b then in_slot slots (other - first_handle) else None)
    at false e d f = refl
    at true e false f = refl
    at true e true f =
        let low : first_handle ≤ other = grind (arith, nat_tests) in
        let low_too : first_handle ≤ handle = grind (arith, nat_tests) in
        let away : other - first_handle ≢ handle - first_handle = λ same. apart (omega (arith, same, low, low_too)) in
        get_or-set_other slots (handle - first_handle) (other - first_handle) content None away

pub content-emptied : {A : Type 0} (slots : List (Option A)) (handle : ℕ) → content_at (with_content slots handle None) handle ≡ None
content-emptied {A} slots handle = at (nat_le first_handle handle) (handle - first_handle)
  where
    at : (b : Bool) (slot : ℕ) → ◌≡◌ {A = Option A} (if b then in_slot (if b then set slots slot None else slots) slot else None) None
    at false slot = refl
    at true slot =
        ⊎_elim (λ within. get_or-set_same slots slot None None within)
        (λ past. get_or_past (set slots slot None) slot None (subst (λ n. n ≤ slot) (sym (length-set slots slot None)) past))
        (cases_lt slot (length slots))

-- one slot more is emptied, and all are
set-behind : {A : Type 0} (old : List (Option A)) (count : ℕ) → count < length old → set (replicate count None ++ drop count old) count None ≡ replicate (suc count) None ++ drop (suc count) old
set-behind [] count less = absurd (omega (arith, less))
set-behind (content ∷ rest) zero less = refl
set-behind (content ∷ rest) (suc count) less = ap (λ slots. None ∷ slots) (set-behind rest count (omega (arith, less)))

pub clear-more : {A : Type 0} (old : List (Option A)) (count : ℕ) → count < length old → with_content (replicate count None ++ drop count old) (first_handle + count) None ≡ replicate (suc count) None ++ drop (suc count) old
clear-more old count less =
    let within : nat_le first_handle (first_handle + count) ≡ true = grind (arith, nat_tests) in
    let slot : first_handle + count - first_handle ≡ count = omega arith in
    rw (within, slot) (set-behind old count less)

-- what is found has the handle, and is in its slot
pub found-state : (slots : List (Option SessionState)) (handle : ℕ) (session : SessionView) → Some session ≡ session_at slots handle → (session.handle ≡ handle) × (state_at slots handle ≡ Some session.state)
found-state slots handle session found = at (state_at slots handle) found
  where
    at : (content : Option SessionState) → Some session ≡ option_map (session_of handle) content → (session.handle ≡ handle) × (content ≡ Some session.state)
    at None h = absurd (none-some session (sym h))
    at (Some state) h =
        let same = same_Some session (session_of handle state) h in
        (ap (λ s. s.handle) same, ap (λ (s : SessionView). Some s.state) (sym same))

pub found-slot : (slots : List (Option SessionState)) (handle : ℕ) (found : Option SessionView) → found ≡ session_at slots handle → (is_some found ≡ true → IsSlotHandle handle) → IfSome found (λ session. IsSlotHandle session.handle)
found-slot slots handle None same slot = tt
found-slot slots handle (Some session) same slot = subst IsSlotHandle (sym (found-state slots handle session same).0) (slot refl)

-- a session that is taken out, changed and put back
pub put-back : (slots : List (Option SessionState)) (handle : ℕ) (session : SessionView) (change : SessionState → SessionState) → Some session ≡ session_at slots handle
    → with_state (with_state slots handle None) handle (Some (change session.state)) ≡ changed_at slots handle change
put-back slots handle session change found =
    with_content-twice slots handle None (Some (change session.state))
    ∙ ap (λ content. with_state slots handle (option_map change content)) (sym (found-state slots handle session found).1)

-- a free slot is not live
pub free-apart : (slots : List (Option SessionState)) (taken slot : ℕ) → is_free slots taken slot ≡ true → state_at slots (first_handle + slot) ≡ None
free-apart slots taken slot free =
    let within : nat_le first_handle (first_handle + slot) ≡ true = grind (arith, nat_tests) in
    let same : first_handle + slot - first_handle ≡ slot = omega arith in
    rw (within, same) (empty (in_slot slots slot) _ free)
  where
    empty : (content : Option SessionState) (b : Bool) → (not (is_some content) && b) ≡ true → content ≡ None
    empty None b h = refl
    empty (Some state) b h = absurd (false≢true h)

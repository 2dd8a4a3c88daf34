-- Look-ups and writes in tables whose contents know their handles.
use Rattle.std.proofs.Common.{◌≡◌, ℕ, zero, suc, ◌+◌, ◌-◌, Bool, true, false, List, [], ◌∷◌, get_or, set, Option, None, Some, nat_le, replicate, if◌then◌else◌, refl, ap, sym, ◌∙◌, arith}
use Rattle.std.specs.Option.{option_map}
use Rattle.std.proofs.lemmas.Bool.Decides.{nat_tests}
use Rattle.tpm_session.specs.Slots.{first_handle, in_slot, content_at, with_content}
use Rattle.tpm_session.specs.Numbered.{plain, numbered, IsNumbered}

module _ {A B : Type 0} (make : ℕ → A → B) where
  get-numbered : (slots : List (Option A)) (first slot : ℕ) → get_or (numbered make first slots) slot None ≡ option_map (make (first + slot)) (get_or slots slot None)
  get-numbered [] first slot = refl
  get-numbered (content ∷ rest) first zero =
      let same : first ≡ first + 0 = omega arith in
      ap (λ n. option_map (make n) content) same
  get-numbered (content ∷ rest) first (suc slot) =
      let same : (first + 1) + slot ≡ first + suc slot = omega arith in
      get-numbered rest (first + 1) slot ∙ ap (λ n. option_map (make n) (get_or rest slot None)) same

  set-numbered : (slots : List (Option A)) (first slot : ℕ) (content : Option A) → set (numbered make first slots) slot (option_map (make (first + slot)) content) ≡ numbered make first (set slots slot content)
  set-numbered [] first slot content = refl
  set-numbered (before ∷ rest) first zero content =
      let same : first + 0 ≡ first = omega arith in
      ap (λ n. option_map (make n) content ∷ numbered make (first + 1) rest) same
  set-numbered (before ∷ rest) first (suc slot) content =
      let same : first + suc slot ≡ (first + 1) + slot = omega arith in
      ap (λ n. option_map (make first) before ∷ set (numbered make (first + 1) rest) slot (option_map (make n) content)) same
      ∙ ap (λ slots. option_map (make first) before ∷ slots) (set-numbered rest (first + 1) slot content)

  numbered-none : (count first : ℕ) → numbered make first (replicate count None) ≡ replicate count None
  numbered-none zero first = refl
  numbered-none (suc count) first = ap (λ slots. None ∷ slots) (numbered-none count (first + 1))

  module _ (view : B → A) where
    pub content-numbered : (table : List (Option B)) (handle : ℕ) → IsNumbered make view table → content_at table handle ≡ option_map (make handle) (content_at (plain view table) handle)
    content-numbered table handle is = at (nat_le first_handle handle) refl
      where
        at : (b : Bool) → nat_le first_handle handle ≡ b
            → (if b then in_slot table (handle - first_handle) else None) ≡ option_map (make handle) (if b then in_slot (plain view table) (handle - first_handle) else None)
        at false e = refl
        at true e =
            let back : first_handle + (handle - first_handle) ≡ handle = grind (arith, nat_tests) in
            ap (λ slots. get_or slots (handle - first_handle) None) is
            ∙ (get-numbered (plain view table) first_handle (handle - first_handle)
            ∙ ap (λ n. option_map (make n) (in_slot (plain view table) (handle - first_handle))) back)

    module _ (law : (handle : ℕ) (a : A) → view (make handle a) ≡ a) where
      plain-made : (handle : ℕ) (content : Option A) → option_map view (option_map (make handle) content) ≡ content
      plain-made handle None = refl
      plain-made handle (Some a) = ap Some (law handle a)

      plain-numbered : (slots : List (Option A)) (first : ℕ) → plain view (numbered make first slots) ≡ slots
      plain-numbered [] first = refl
      plain-numbered (content ∷ rest) first =
          ap (λ a. a ∷ plain view (numbered make (first + 1) rest)) (plain-made first content)
          ∙ ap (λ slots. content ∷ slots) (plain-numbered rest (first + 1))

      -- a table that is made of slots has each content numbered, and these slots beside the handles
      pub numbered-plain : (table : List (Option B)) (slots : List (Option A)) → table ≡ numbered make first_handle slots → plain view table ≡ slots
      numbered-plain table slots made = ap (plain view) made ∙ plain-numbered slots first_handle

      pub numbered-is : (table : List (Option B)) (slots : List (Option A)) → table ≡ numbered make first_handle slots → IsNumbered make view table
      numbered-is table slots made = made ∙ ap (numbered make first_handle) (sym (numbered-plain table slots made))

      pub with-numbered : (table : List (Option B)) (handle : ℕ) (content : Option A) → IsNumbered make view table → with_content table handle (option_map (make handle) content) ≡ numbered make first_handle (with_content (plain view table) handle content)
      with-numbered table handle content is = at (nat_le first_handle handle) refl
        where
          at : (b : Bool) → nat_le first_handle handle ≡ b
              → (if b then set table (handle - first_handle) (option_map (make handle) content) else table)
              ≡ numbered make first_handle (if b then set (plain view table) (handle - first_handle) content else plain view table)
          at false e = is
          at true e =
              let back : first_handle + (handle - first_handle) ≡ handle = grind (arith, nat_tests) in
              ap (λ slots. set slots (handle - first_handle) (option_map (make handle) content)) is
              ∙ (ap (λ n. set (numbered make first_handle (plain view table)) (handle - first_handle) (option_map (make n) content)) (sym back)
              ∙ set-numbered (plain view table) first_handle (handle - first_handle) content)

      pub none-is : (table : List (Option B)) (count : ℕ) → table ≡ replicate count None → IsNumbered make view table
      none-is table count none = numbered-is table (replicate count None) (none ∙ sym (numbered-none count first_handle))

      pub none-plain : (table : List (Option B)) (count : ℕ) → table ≡ replicate count None → plain view table ≡ replicate count None
      none-plain table count none = numbered-plain table (replicate count None) (none ∙ sym (numbered-none count first_handle))

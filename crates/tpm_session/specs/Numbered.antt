-- Tables whose contents know the handle of their slot. `make` gives the content of a handle, and `view` is
-- what it says beside the handle.
use Rattle.std.specs.Prelude.{◌≡◌, ℕ, ◌+◌, List, [], ◌∷◌, map, Option}
use Rattle.std.specs.Option.{option_map}
use Rattle.tpm_session.specs.Slots.{first_handle}

-- what contents say beside their handles
abbrev pub plain : {A B : Type 0} → (B → A) → List (Option B) → List (Option A)
plain view table = map (option_map view) table

-- contents with the handles of their slots, from this handle on
abbrev pub numbered : {A B : Type 0} → (ℕ → A → B) → ℕ → List (Option A) → List (Option B)
numbered make handle [] = []
numbered make handle (content ∷ rest) = option_map (make handle) content ∷ numbered make (handle + 1) rest

-- each content has the handle of its slot
abbrev pub IsNumbered : {A B : Type 0} → (ℕ → A → B) → (B → A) → List (Option B) → Type 0
IsNumbered make view table = table ≡ numbered make first_handle (plain view table)

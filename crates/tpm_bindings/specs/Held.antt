-- What several values say together: nothing, one value, or different ones.
use Rattle.std.specs.Prelude.{Bool, true, false, List, [], ◌∷◌, Option, Some, None, if◌then◌else◌}
use Rattle.std.specs.List.{list_all, flat_map}
use Rattle.tpm_bindings.specs.declared.held.Held.{Held}
use Rattle.tpm_bindings.specs.declared.held.Held.TheVariants.{Nothing, One, Several}

-- whether there is a value
abbrev pub any_of : {A : Type 0} → List A → Bool
any_of [] = false
any_of (first ∷ rest) = true

-- whether each of the values is this one
abbrev pub all_are : {A : Type 0} → (A → A → Bool) → A → List A → Bool
all_are same value values = list_all (same value) values

-- whether no two of the values differ
abbrev pub are_one : {A : Type 0} → (A → A → Bool) → List A → Bool
are_one same [] = true
are_one same (first ∷ rest) = all_are same first rest

-- the values merged
abbrev pub held : {A : Type 0} → (A → A → Bool) → List A → Held A
held same [] = Nothing
held same (first ∷ rest) = if all_are same first rest then One first else Several

-- the value, if there is one, as a list
abbrev pub listed : {A : Type 0} → Option A → List A
listed None = []
listed (Some value) = value ∷ []

-- what f gives of each, in order, where it gives something
abbrev pub each_of : {A B : Type 0} → (A → Option B) → List A → List B
each_of f xs = flat_map (λ x. listed (f x)) xs

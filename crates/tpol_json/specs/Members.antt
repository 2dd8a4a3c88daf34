-- Reading the members of an object, and the items of a list. Each crate has kinds of faults of its own, so where
-- a fault may come, its kind is given.
use Rattle.std.specs.Prelude.{◌≡◌, ℕ, suc, nat_lt, List, [], ◌∷◌, Option, Some, None, is_some, unwrap_or, Ok, Bool, false, ◌||◌, if◌then◌else◌, ⊤}
use Rattle.std.specs.Str.{bytes_eq}
use Rattle.serde_json.specs.Data.{Data, Items, no_items, item, Members, no_members, member}
use Rattle.serde_json.specs.Find.{get, as_object}
use Rattle.tpol_json.specs.declared.fault.Fault.{Fault}
use Rattle.tpol_json.specs.declared.fault.Fault.TheVariants.{Bad, NoMemory}
use Rattle.tpol_json.specs.declared.fault.MemberKind.{MemberKind}
use Rattle.tpol_json.specs.declared.fault.MemberKind.TheVariants.{Missing}
use Rattle.tpol_json.specs.declared.place.Place.{Place}
use Rattle.tpol_json.specs.Places.{at_member, at_item}
use Rattle.tpol_base.specs.Answers.{◌>>=◌}
use Rattle.tpol_json.specs.Reading.{ReadAs, bad}

module _ {A K : Type 0} where
  abbrev pub read_needed : K → (Data → Place → ReadAs K A) → Option Data → Place → ReadAs K A
  read_needed missing read None place = bad missing place
  read_needed missing read (Some d) place = read d place

  -- a member that has to be there
  abbrev pub needed : K → (Data → Place → ReadAs K A) → List ℕ → Data → Place → ReadAs K A
  needed missing read name d place = read_needed missing read (get name d) (at_member place name)

  abbrev pub read_optional : (Data → Place → ReadAs K A) → A → Option Data → Place → ReadAs K A
  read_optional read default None place = Ok default
  read_optional read default (Some d) place = read d place

  -- a member that may be left out, for its default
  abbrev pub optional : (Data → Place → ReadAs K A) → A → List ℕ → Data → Place → ReadAs K A
  optional read default name d place = read_optional read default (get name d) (at_member place name)

-- none of these members may be there: the first that is comes a second time
abbrev pub without : {K : Type 0} → K → List (List ℕ) → Data → Place → ReadAs K ⊤
without twice [] d place = Ok tt
without twice (name ∷ names) d place =
    if is_some (get name d) then bad twice (at_member place name) else without twice names d place

-- whether the name is one of these
abbrev pub is_among : List ℕ → List (List ℕ) → Bool
is_among name [] = false
is_among name (known ∷ names) = bytes_eq known name || is_among name names

abbrev pub unknown_of : List (List ℕ) → Members → Place → List Place
unknown_of known no_members place = []
unknown_of known (member name d ms) place =
    if is_among name known then unknown_of known ms place else at_member place name ∷ unknown_of known ms place

-- the places of an object's members that are none of the known ones, in ascending byte order of names
abbrev pub unknown : List (List ℕ) → Data → Place → List Place
unknown known d place = unknown_of known (unwrap_or (as_object d) no_members) place

-- an item past so many is one too many, before it is read
abbrev pub within_limit : {K : Type 0} → K → ℕ → ℕ → Place → ReadAs K ⊤
within_limit many limit index place = if nat_lt index limit then Ok tt else bad many place

-- how many items a list has
abbrev pub items_count : Items → ℕ
items_count no_items = 0
items_count (item d ds) = suc (items_count ds)

-- how an item is read: what the items before it gave, its position from 0, its value and its place
abbrev pub ItemReading : Type 0 → Type 0 → Type 0
ItemReading A K = A → ℕ → Data → Place → ReadAs K A

-- the items from this position on, each beside what those before it gave
unfoldable pub items_from : {A K : Type 0} → ItemReading A K → A → ℕ → Items → Place → ReadAs K A
items_from read before index no_items place = Ok before
items_from read before index (item d ds) place =
    read before index d (at_item place index) >>= λ after. items_from read after (suc index) ds place

-- a call that wants a member refuses with this fault: the member is not there
abbrev pub IsMissing : Fault MemberKind → Option Data → Place → Type 0
IsMissing (Bad kind at) found place = (kind ≡ Missing) × (at ≡ place) × (found ≡ None)
IsMissing NoMemory found place = ⊤

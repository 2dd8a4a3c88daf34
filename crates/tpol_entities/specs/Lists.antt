-- Lists whose items are read in order, each beside what the items before it gave.
use Rattle.std.specs.Prelude.{ℕ, suc, List, [], ◌∷◌, Option, Some, None, Ok, Err}
use Rattle.serde_json.specs.Data.{Data, Items, no_items, item}
use Rattle.serde_json.specs.Find.{get}
use Rattle.tpol_base.specs.Answers.{◌>>=◌}
use Rattle.tpol_json.specs.Members as json
use Rattle.tpol_json.specs.Places.{at_item, at_member}
use Rattle.tpol_json.specs.declared.place.Place.{Place}
use Rattle.tpol_entities.specs.Faults.{Fault, Found}
use Rattle.tpol_entities.specs.Values.{items_in}
use Rattle.tpol_entities.specs.declared.fault.SceneKind.{SceneKind}

-- how an item is read: what the items before it gave, its position from 0, its value and its place
abbrev pub ItemReading : Type 0 → Type 0
ItemReading A = json.ItemReading A SceneKind

-- a list, read from its first item on
abbrev pub list_in : {A : Type 0} → ItemReading A → A → Data → Place → Found A
list_in read start d place = items_in d place >>= λ ds. json.items_from read start 0 ds place

-- the fault of a reading, if there is one
abbrev pub faults_of : {A : Type 0} → Found A → List Fault
faults_of (Ok x) = []
faults_of (Err fault) = fault ∷ []

-- the fault of a reading, or those of what was read
abbrev pub faults_within : {A : Type 0} → Found A → (A → List Fault) → List Fault
faults_within (Ok x) within = within x
faults_within (Err fault) within = fault ∷ []

-- the fault of an item, and then those of the items behind it
abbrev pub faults_behind : {A : Type 0} → Found A → A → (A → List Fault) → List Fault
faults_behind (Ok after) before behind = behind after
faults_behind (Err fault) before behind = fault ∷ behind before

-- each item's first fault; an item at fault gives nothing to those behind it
unfoldable pub item_faults : {A : Type 0} → ItemReading A → A → ℕ → Items → Place → List Fault
item_faults read before index no_items place = []
item_faults read before index (item d ds) place =
    faults_behind (read before index d (at_item place index)) before (λ after. item_faults read after (suc index) ds place)

-- the faults of a list
abbrev pub list_faults : {A : Type 0} → ItemReading A → A → Data → Place → List Fault
list_faults read start d place = faults_within (items_in d place) (λ ds. item_faults read start 0 ds place)

-- what a reading gives, or what there was before
abbrev pub found_or : {A : Type 0} → A → Found A → A
found_or before (Ok after) = after
found_or before (Err fault) = before

-- what the items without a fault give
unfoldable pub items_kept : {A : Type 0} → ItemReading A → A → ℕ → Items → Place → A
items_kept read before index no_items place = before
items_kept read before index (item d ds) place =
    items_kept read (found_or before (read before index d (at_item place index))) (suc index) ds place

abbrev pub kept_within : {A : Type 0} → Found Items → A → (Items → A) → A
kept_within (Ok ds) start within = within ds
kept_within (Err fault) start within = start

-- the same of a list
abbrev pub list_kept : {A : Type 0} → ItemReading A → A → Data → Place → A
list_kept read start d place = kept_within (items_in d place) start (λ ds. items_kept read start 0 ds place)

abbrev pub kept_if_there : {A : Type 0} → ItemReading A → A → Option Data → Place → A
kept_if_there read start None place = start
kept_if_there read start (Some d) place = list_kept read start d place

-- the same of a list that may be left out
abbrev pub optional_kept : {A : Type 0} → ItemReading A → A → List ℕ → Data → Place → A
optional_kept read start name d place = kept_if_there read start (get name d) (at_member place name)

abbrev pub faults_if_there : (Data → Place → List Fault) → Option Data → Place → List Fault
faults_if_there faults None place = []
faults_if_there faults (Some d) place = faults d place

-- the faults of a member that may be left out
abbrev pub optional_faults : (Data → Place → List Fault) → List ℕ → Data → Place → List Fault
optional_faults faults name d place = faults_if_there faults (get name d) (at_member place name)

-- The first of all faults is the one that the reading meets.
use Rattle.std.proofs.Common.{◌≡◌, ℕ, suc, List, [], ◌∷◌, ◌++◌, refl, ◌∙◌}
use Rattle.std.specs.Prelude.{Option, Some, None, Ok, Err, slice_get}
use Rattle.serde_json.specs.Data.{Data, Items, no_items, item}
use Rattle.serde_json.specs.Find.{get}
use Rattle.tpol_json.specs.Places.{at_item, at_member}
use Rattle.tpol_json.specs.declared.place.Place.{Place}
use Rattle.tpol_base.specs.Answers.{◌>>=◌}
use Rattle.tpol_json.specs.Members.{items_from, optional, read_optional}
use Rattle.tpol_entities.specs.Faults.{Fault, Found}
use Rattle.tpol_entities.specs.Lists.{ItemReading, list_in, item_faults, items_kept, found_or, kept_if_there, kept_within, list_faults, list_kept, faults_of, faults_behind, faults_if_there, faults_within, optional_faults, optional_kept}
use Rattle.tpol_entities.specs.Values.{items_in}

-- the fault of a reading
abbrev pub fault_in : {A : Type 0} → Found A → Option Fault
fault_in (Ok x) = None
fault_in (Err fault) = Some fault

-- a reading without a fault
abbrev pub fault_free : {A : Type 0} → A → Found A
fault_free x = Ok x

-- the first of the faults is that of the reading
pub record Leads {A : Type 0} (faults : List Fault) (reading : Found A) : Type 0 where
  pub first : slice_get faults 0 ≡ fault_in reading

pub leads-one : {A : Type 0} (reading : Found A) → Leads (faults_of reading) reading
leads-one (Ok x) = record { first = refl }
leads-one (Err fault) = record { first = refl }

no_first : (faults more : List Fault) → slice_get faults 0 ≡ None → slice_get (faults ++ more) 0 ≡ slice_get more 0
no_first [] more e = refl
no_first (fault ∷ faults) more e = absurd cc

some_first : (faults more : List Fault) (fault : Fault) → slice_get faults 0 ≡ Some fault → slice_get (faults ++ more) 0 ≡ Some fault
some_first [] more fault e = absurd cc
some_first (other ∷ faults) more fault e = e

-- faults of what is read one after the other; those behind may rest on what was read
pub leads-read : {A B : Type 0} (faults more : List Fault) (reading : Found A) (next : A → Found B)
    → Leads faults reading → ((x : A) → reading ≡ Ok x → Leads more (next x)) → Leads (faults ++ more) (reading >>= next)
leads-read faults more (Ok x) next leads behind = record { first = no_first faults more leads.first ∙ (behind x refl).first }
leads-read faults more (Err fault) next leads behind = record { first = some_first faults more fault leads.first }

pub leads-then : {A B : Type 0} (faults more : List Fault) (reading : Found A) (next : A → Found B)
    → Leads faults reading → ((x : A) → Leads more (next x)) → Leads (faults ++ more) (reading >>= next)
leads-then faults more (Ok x) next leads behind = record { first = no_first faults more leads.first ∙ (behind x).first }
leads-then faults more (Err fault) next leads behind = record { first = some_first faults more fault leads.first }

leads-behind : {A : Type 0} (reading : Found A) (before : A) (behind : A → List Fault) (next : A → Found A)
    → ((x : A) → Leads (behind x) (next x)) → Leads (faults_behind reading before behind) (reading >>= next)
leads-behind (Ok after) before behind next leads = leads after
leads-behind (Err fault) before behind next leads = record { first = refl }

pub leads-items : {A : Type 0} (read : ItemReading A) (before : A) (index : ℕ) (ds : Items) (place : Place)
    → Leads (item_faults read before index ds place) (items_from read before index ds place)
unfolding item_faults items_from
leads-items read before index no_items place = record { first = refl }
leads-items read before index (item d ds) place =
    leads-behind (read before index d (at_item place index)) before (λ after. item_faults read after (suc index) ds place)
    (λ after. items_from read after (suc index) ds place) (λ after. leads-items read after (suc index) ds place)

leads-within : {A B : Type 0} (reading : Found A) (within : A → List Fault) (next : A → Found B)
    → ((x : A) → Leads (within x) (next x)) → Leads (faults_within reading within) (reading >>= next)
leads-within (Ok x) within next leads = leads x
leads-within (Err fault) within next leads = record { first = refl }

leads-list : {A : Type 0} (read : ItemReading A) (start : A) (d : Data) (place : Place) → Leads (list_faults read start d place) (list_in read start d place)
leads-list read start d place =
    leads-within (items_in d place) (λ ds. item_faults read start 0 ds place) (λ ds. items_from read start 0 ds place)
    (λ ds. leads-items read start 0 ds place)

leads-there : {A : Type 0} (read : ItemReading A) (start : A) (there : Option Data) (place : Place)
    → Leads (faults_if_there (list_faults read start) there place) (read_optional (list_in read start) start there place)
leads-there read start None place = record { first = refl }
leads-there read start (Some d) place = leads-list read start d place

-- a list that may be left out
pub leads-optional : {A : Type 0} (read : ItemReading A) (start : A) (name : List ℕ) (d : Data) (place : Place)
    → Leads (optional_faults (list_faults read start) name d place) (optional (list_in read start) start name d place)
leads-optional read start name d place = leads-there read start (get name d) (at_member place name)

-- ---- where no item has a fault, what is kept is what is read

pub same_ok : {A : Type 0} (x y : A) → fault_free x ≡ fault_free y → x ≡ y
same_ok x y e = cc

kept-step : {A : Type 0} (reading : Found A) (before : A) (next : A → Found A) (kept : A → A) (x : A)
    → ((after : A) → next after ≡ Ok x → kept after ≡ x) → (reading >>= next) ≡ Ok x → kept (found_or before reading) ≡ x
kept-step (Ok after) before next kept x h e = h after e
kept-step (Err fault) before next kept x h e = absurd cc

kept-items : {A : Type 0} (read : ItemReading A) (before : A) (index : ℕ) (ds : Items) (place : Place) (x : A)
    → items_from read before index ds place ≡ Ok x → items_kept read before index ds place ≡ x
unfolding items_from items_kept
kept-items read before index no_items place x e = same_ok before x e
kept-items read before index (item d ds) place x e =
    kept-step (read before index d (at_item place index)) before (λ after. items_from read after (suc index) ds place)
    (λ after. items_kept read after (suc index) ds place) x (λ after reads. kept-items read after (suc index) ds place x reads) e

kept-within : {A : Type 0} (reading : Found Items) (start : A) (next : Items → Found A) (within : Items → A) (x : A)
    → ((ds : Items) → next ds ≡ Ok x → within ds ≡ x) → (reading >>= next) ≡ Ok x → kept_within reading start within ≡ x
kept-within (Ok ds) start next within x h e = h ds e
kept-within (Err fault) start next within x h e = absurd cc

kept-list : {A : Type 0} (read : ItemReading A) (start : A) (d : Data) (place : Place) (x : A)
    → list_in read start d place ≡ Ok x → list_kept read start d place ≡ x
kept-list read start d place x e =
    kept-within (items_in d place) start (λ ds. items_from read start 0 ds place) (λ ds. items_kept read start 0 ds place) x
    (λ ds reads. kept-items read start 0 ds place x reads) e

kept-there : {A : Type 0} (read : ItemReading A) (start : A) (there : Option Data) (place : Place) (x : A)
    → read_optional (list_in read start) start there place ≡ Ok x → kept_if_there read start there place ≡ x
kept-there read start None place x e = same_ok start x e
kept-there read start (Some d) place x e = kept-list read start d place x e

pub kept-optional : {A : Type 0} (read : ItemReading A) (start : A) (name : List ℕ) (d : Data) (place : Place) (x : A)
    → optional (list_in read start) start name d place ≡ Ok x → optional_kept read start name d place ≡ x
kept-optional read start name d place x e = kept-there read start (get name d) (at_member place name) x e

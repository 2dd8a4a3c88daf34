-- What the values of a scene's members meet.
use Rattle.std.proofs.Common.{◌≡◌, ℕ, suc, ◌≤◌, Bool, true, false, cond, List, [], length, Ok, Err, refl, arith, inl, inr}
use Rattle.std.specs.Prelude.{⊤, ◌||◌, ◌==◌}
use Rattle.std.proofs.lemmas.Bool.{leb-true, eqb-true, or_cases}
use Rattle.serde_json.specs.Data.{Data, Items, no_items, item}
use Rattle.serde_json.specs.Find.{get}
use Rattle.tpol_json.proofs.AllFound.{AllFound, all_if, all_map, all_read, all_then, needed-fits, optional-fits}
use Rattle.tpol_json.proofs.Limits.{FitsBytes, empty_or_32-fits, is_empty_or_32, is_up_to, unsigned-fits, up_to-fits}
use Rattle.tpol_json.specs.Members.{items_from, optional}
use Rattle.tpol_json.specs.Places.{at_item, at_member}
use Rattle.tpol_json.specs.Reading.{ReadAs, bad}
use Rattle.tpol_json.specs.Values as json
use Rattle.tpol_json.specs.declared.place.Place.{Place}
use Rattle.tpol_name.specs.Setups.{IsAuthValue, IsDigestOrEmpty}
use Rattle.tpol_entities.specs.Faults.{Found, kind_of}
use Rattle.tpol_entities.specs.Lists.{ItemReading, list_in}
use Rattle.tpol_entities.specs.Members.{needed}
use Rattle.tpol_entities.specs.Values.{items_in, unsigned_in, bytes_up_to, empty_or_32, auth_in}
use Rattle.tpol_entities.specs.declared.fault.SceneKind.TheVariants.{Missing}
use Rattle.tpol_entities.proofs.ZerosLemmas.{trimmed, without_trailing_zeros-length}

-- ---- readings in general

pub any_ok : {K A : Type 0} (r : ReadAs K A) → AllFound (λ _. ⊤) r
any_ok (Ok x) = tt
any_ok (Err fault) = tt

pub both_ok : {K A : Type 0} (P Q : A → Type 0) (r : ReadAs K A) → AllFound P r → AllFound Q r → AllFound (λ x. P x × Q x) r
both_ok P Q (Ok x) one other = (one, other)
both_ok P Q (Err fault) one other = tt

-- a value that passed a test, and one that failed it
pub tested : {K A : Type 0} (P : A → Type 0) (t : Bool) (x : A) (kind : K) (place : Place) → (t ≡ true → P x) → AllFound P (cond t (Ok x) (bad kind place))
tested P t x kind place h = all_if P t (Ok x) (bad kind place) h tt

pub refuted : {K A : Type 0} (P : A → Type 0) (t : Bool) (x : A) (kind : K) (place : Place) → (t ≡ false → P x) → AllFound P (cond t (bad kind place) (Ok x))
refuted P true x kind place h = tt
refuted P false x kind place h = h refl

pub needed_ok : {A : Type 0} (P : A → Type 0) (read : Data → Place → Found A) → ((d : Data) (place : Place) → AllFound P (read d place))
    → (name : List ℕ) (d : Data) (place : Place) → AllFound P (needed read name d place)
needed_ok P read h name d place = needed-fits P Missing read (get name d) (at_member place name) h

pub optional_ok : {A : Type 0} (P : A → Type 0) (read : Data → Place → Found A) (default : A) → P default → ((d : Data) (place : Place) → AllFound P (read d place))
    → (name : List ℕ) (d : Data) (place : Place) → AllFound P (optional read default name d place)
optional_ok P read default start h name d place = optional-fits P read default (get name d) (at_member place name) start h

-- what holds behind each item holds behind the list; it may speak of how many items were read
items_ok : {A : Type 0} (P : ℕ → A → Type 0) (read : ItemReading A) → ((before : A) (index : ℕ) (d : Data) (place : Place) → P index before → AllFound (P (suc index)) (read before index d place))
    → (before : A) (index : ℕ) (ds : Items) (place : Place) → P index before → AllFound (λ after. (n : ℕ) × P n after) (items_from read before index ds place)
unfolding items_from
items_ok P read h before index no_items place so_far = (index, so_far)
items_ok {A} P read h before index (item d ds) place so_far =
    all_then (P (suc index)) (λ (after : A). (n : ℕ) × P n after) (read before index d (at_item place index)) _ (h before index d (at_item place index) so_far) (λ after kept. items_ok P read h after (suc index) ds place kept)

pub list_counted : {A : Type 0} (P : ℕ → A → Type 0) (read : ItemReading A) → ((before : A) (index : ℕ) (d : Data) (place : Place) → P index before → AllFound (P (suc index)) (read before index d place))
    → (start : A) → P 0 start → (d : Data) (place : Place) → AllFound (λ after. (n : ℕ) × P n after) (list_in read start d place)
list_counted {A} P read h start holds d place =
    all_then (λ _. ⊤) (λ (after : A). (n : ℕ) × P n after) (items_in d place) _ (any_ok _) (λ ds _. items_ok P read h start 0 ds place holds)

pub list_ok : {A : Type 0} (P : A → Type 0) (read : ItemReading A) → ((before : A) (index : ℕ) (d : Data) (place : Place) → P before → AllFound P (read before index d place))
    → (start : A) → P start → (d : Data) (place : Place) → AllFound P (list_in read start d place)
list_ok {A} P read h start holds d place =
    all_map (λ (after : A). (n : ℕ) × P after) P (list_in read start d place)
    (list_counted (λ _ x. P x) read h start holds d place) (λ after kept. kept.1)

-- ---- values

pub unsigned_ok : (least greatest : ℕ) (d : Data) (place : Place) → AllFound (λ n. (least ≤ n) × (n ≤ greatest)) (unsigned_in least greatest d place)
unsigned_ok least greatest d place =
    all_read (λ n. (least ≤ n) × (n ≤ greatest)) kind_of (json.unsigned_in least greatest d place) (unsigned-fits least greatest d place)

pub short_ok : (limit : ℕ) (d : Data) (place : Place) → AllFound (λ bytes. length bytes ≤ limit) (bytes_up_to limit d place)
short_ok limit d place =
    all_map (FitsBytes (is_up_to limit)) (λ bytes. length bytes ≤ limit) (bytes_up_to limit d place)
    (all_read (FitsBytes (is_up_to limit)) kind_of (json.bytes_up_to limit d place) (up_to-fits limit d place))
    (λ bytes fits. leb-true (length bytes) limit fits.1)

empty_or_digest : (bytes : List ℕ) → (length bytes == 0 || length bytes == 32) ≡ true → IsDigestOrEmpty bytes
empty_or_digest bytes e =
    elim (or_cases (length bytes == 0) (length bytes == 32) e) [ inl empty ↦ inl (eqb-true _ _ empty) | inr whole ↦ inr (eqb-true _ _ whole) ]

pub empty_or_32_ok : (d : Data) (place : Place) → AllFound IsDigestOrEmpty (empty_or_32 d place)
empty_or_32_ok d place =
    all_map (FitsBytes is_empty_or_32) IsDigestOrEmpty (empty_or_32 d place)
    (all_read (FitsBytes is_empty_or_32) kind_of (json.empty_or_32 d place) (empty_or_32-fits d place))
    (λ bytes fits. empty_or_digest bytes fits.1)

pub empty_auth : IsAuthValue []
empty_auth = record { size = omega arith; trimmed = refl }

pub auth_ok : (d : Data) (place : Place) → AllFound IsAuthValue (auth_in d place)
auth_ok d place =
    all_then (λ bytes. length bytes ≤ 32) IsAuthValue (bytes_up_to 32 d place) _ (short_ok 32 d place)
    (λ bytes short. record { size = omega (arith, without_trailing_zeros-length bytes, short); trimmed = trimmed bytes })

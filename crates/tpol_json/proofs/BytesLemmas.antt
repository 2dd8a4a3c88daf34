-- Bytes that are read item after item.
use Rattle.std.proofs.Common.{◌≡◌, ℕ, suc, ◌+◌, ◌<◌, ◌≤◌, List, [], ◌∷◌, ◌++◌, length, get_or, drop, Ok, Err, refl, sym, ap, ◌∙◌, add-one, append_assoc, append-nil}
use Rattle.std.proofs.Math.ListN.{drop_of_length-le}
use Rattle.std.proofs.Math.Seq.{drop-cons}
use Rattle.serde_json.specs.Data.{Data, Items, item}
use Rattle.serde_json.specs.View.{view, items_view}
use Rattle.serde_json.specs.declared.value.Value.{Value}
use Rattle.tpol_json.specs.Bytes.{byte_in, bytes_from}
use Rattle.tpol_json.specs.Places.{at_item}
use Rattle.tpol_base.specs.Answers.{FailsWith, ◌>>=◌}
use Rattle.tpol_json.specs.Faults.{FoundValue}
use Rattle.tpol_json.specs.Reading.{cause}
use Rattle.tpol_json.specs.declared.fault.JsonKind.{JsonKind}
use Rattle.tpol_json.specs.declared.fault.Fault.{Fault}
use Rattle.tpol_json.specs.declared.fault.Fault.TheVariants.{Bad, NoMemory}
use Rattle.tpol_json.specs.declared.place.Place.{Place}

-- what was found behind these bytes
abbrev pub with_front : List ℕ → FoundValue (List ℕ) → FoundValue (List ℕ)
with_front front (Ok rest) = Ok (front ++ rest)
with_front front (Err fault) = Err fault

with_front-cons : (front : List ℕ) (byte : ℕ) (rest : FoundValue (List ℕ))
    → with_front front (with_front (byte ∷ []) rest) ≡ with_front (front ++ byte ∷ []) rest
with_front-cons front byte (Ok rest) = ap Ok (sym (append_assoc front (byte ∷ []) rest))
with_front-cons front byte (Err fault) = refl

bytes_from-Ok : (index : ℕ) (d : Data) (ds : Items) (place : Place) (byte : ℕ) → byte_in d (at_item place index) ≡ Ok byte
    → bytes_from index (item d ds) place ≡ with_front (byte ∷ []) (bytes_from (suc index) ds place)
unfolding bytes_from
bytes_from-Ok index d ds place byte is = rw is (first byte (bytes_from (suc index) ds place))
  where
    first : (byte : ℕ) (rest : FoundValue (List ℕ)) → (rest >>= λ bytes. Ok (byte ∷ bytes)) ≡ with_front (byte ∷ []) rest
    first byte (Ok rest) = refl
    first byte (Err fault) = refl

bytes_from-Err : (index : ℕ) (d : Data) (ds : Items) (place : Place) (fault : JsonKind × Place) → byte_in d (at_item place index) ≡ Err fault
    → bytes_from index (item d ds) place ≡ Err fault
unfolding bytes_from
bytes_from-Err index d ds place fault is = rw is

-- the items from an index on, which there are
items_view-drop : (vs : List Value) (index : ℕ) (v : Value) → index < length vs → v ≡ get_or vs index v
    → items_view (drop index vs) ≡ item (view v) (items_view (drop (index + 1) vs))
items_view-drop vs index v within is =
    rw (add-one, drop-cons vs index v) (ap (λ w. item (view w) (items_view (drop (suc index) vs))) (sym is))

-- one item more was read
pub bytes_from-turn : (vs : List Value) (index : ℕ) (v : Value) (front : List ℕ) (place : Place) (byte : ℕ)
    → index < length vs → v ≡ get_or vs index v → byte_in (view v) (at_item place index) ≡ Ok byte
    → with_front front (bytes_from index (items_view (drop index vs)) place)
    ≡ with_front (front ++ byte ∷ []) (bytes_from (index + 1) (items_view (drop (index + 1) vs)) place)
bytes_from-turn vs index v front place byte within is read =
    rw (items_view-drop vs index v within is, bytes_from-Ok index (view v) (items_view (drop (index + 1) vs)) place byte read, ← add-one index)
    (with_front-cons front byte _)

-- an item was refused, and so the whole list
pub bytes_from-refused : (vs : List Value) (index : ℕ) (v : Value) (front : List ℕ) (place : Place) (fault : Fault JsonKind) (whole : FoundValue (List ℕ))
    → index < length vs → v ≡ get_or vs index v → with_front front (bytes_from index (items_view (drop index vs)) place) ≡ whole
    → FailsWith (cause fault) (byte_in (view v) (at_item place index)) → FailsWith (cause fault) whole
bytes_from-refused vs index v front place NoMemory whole within is so_far refused = tt
bytes_from-refused vs index v front place (Bad kind at) whole within is so_far refused =
    sym so_far ∙ rw (items_view-drop vs index v within is, bytes_from-Err index (view v) (items_view (drop (index + 1) vs)) place (kind, at) refused)

-- no item is left
pub bytes_from-end : (vs : List Value) (index : ℕ) (front : List ℕ) (place : Place) → length vs ≤ index
    → with_front front (bytes_from index (items_view (drop index vs)) place) ≡ Ok front
unfolding bytes_from
bytes_from-end vs index front place past = rw (drop_of_length-le vs past) (ap Ok (append-nil front))

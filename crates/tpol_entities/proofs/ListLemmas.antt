-- Lists that are read item after item.
use Rattle.std.proofs.Common.{◌≡◌, ℕ, suc, ◌+◌, ◌<◌, ◌≤◌, List, length, get_or, drop, Ok, refl, sym, ap, ◌∙◌, subst, add-one}
use Rattle.std.proofs.Math.ListN.{drop_of_length-le}
use Rattle.std.proofs.Math.Seq.{drop-cons}
use Rattle.std.specs.Prelude.{Option}
use Rattle.serde_json.specs.Data.{Data, Items, item}
use Rattle.serde_json.specs.View.{view, items_view}
use Rattle.serde_json.specs.declared.value.Value.{Value}
use Rattle.tpol_base.specs.Answers.{FailsWith, ◌>>=◌}
use Rattle.tpol_json.specs.Places.{at_item}
use Rattle.tpol_json.specs.declared.place.Place.{Place}
use Rattle.tpol_json.specs.Members.{items_from}
use Rattle.tpol_entities.specs.Faults.{Fault, Found}
use Rattle.tpol_entities.specs.Lists.{ItemReading}
use Rattle.tpol_entities.proofs.BindLemmas.{refused_then}

-- the items from an index on, which there are
items_view-drop : (vs : List Value) (index : ℕ) (v : Value) → index < length vs → v ≡ get_or vs index v
    → items_view (drop index vs) ≡ item (view v) (items_view (drop (index + 1) vs))
items_view-drop vs index v within is =
    rw (add-one, drop-cons vs index v) (ap (λ w. item (view w) (items_view (drop (suc index) vs))) (sym is))

items_from-item : {A : Type 0} (read : ItemReading A) (before : A) (index : ℕ) (d : Data) (ds : Items) (place : Place)
    → items_from read before index (item d ds) place ≡ (read before index d (at_item place index) >>= λ after. items_from read after (index + 1) ds place)
unfolding items_from
items_from-item read before index d ds place = rw add-one refl

-- one item more was read
pub items_from-turn : {A : Type 0} (read : ItemReading A) (before after : A) (vs : List Value) (index : ℕ) (v : Value) (place : Place)
    → index < length vs → v ≡ get_or vs index v → read before index (view v) (at_item place index) ≡ Ok after
    → items_from read before index (items_view (drop index vs)) place ≡ items_from read after (index + 1) (items_view (drop (index + 1) vs)) place
items_from-turn read before after vs index v place within is reads =
    ap (λ ds. items_from read before index ds place) (items_view-drop vs index v within is)
    ∙ items_from-item read before index (view v) (items_view (drop (index + 1) vs)) place
    ∙ ap (λ r. r >>= λ x. items_from read x (index + 1) (items_view (drop (index + 1) vs)) place) reads

-- an item was refused, and so the whole list
pub items_from-refused : {A : Type 0} (read : ItemReading A) (before : A) (vs : List Value) (index : ℕ) (v : Value) (place : Place) (fault : Option Fault) (whole : Found A)
    → index < length vs → v ≡ get_or vs index v → items_from read before index (items_view (drop index vs)) place ≡ whole
    → FailsWith fault (read before index (view v) (at_item place index)) → FailsWith fault whole
items_from-refused {A} read before vs index v place fault whole within is so_far refused =
    let here : items_from read before index (items_view (drop index vs)) place ≡ (read before index (view v) (at_item place index) >>= λ x. items_from read x (index + 1) (items_view (drop (index + 1) vs)) place) =
    ap (λ ds. items_from read before index ds place) (items_view-drop vs index v within is)
    ∙ items_from-item read before index (view v) (items_view (drop (index + 1) vs)) place in
    let P : Found A → Type 0 = λ r. FailsWith fault r in
    subst P (sym here ∙ so_far) (refused_then fault (read before index (view v) (at_item place index)) _ refused)

-- no item is left
pub items_from-end : {A : Type 0} (read : ItemReading A) (before : A) (vs : List Value) (index : ℕ) (place : Place)
    → length vs ≤ index → items_from read before index (items_view (drop index vs)) place ≡ Ok before
unfolding items_from
items_from-end read before vs index place past = rw (drop_of_length-le vs past) refl

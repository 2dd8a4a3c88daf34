-- A list that has an item is read item by item.
use Rattle.std.proofs.Common.{◌≡◌, List, [], ◌∷◌, length, false, nat_eq, Some, refl, sym, subst}
use Rattle.serde_json.specs.Data.{Data, array}
use Rattle.serde_json.specs.View.{items_view}
use Rattle.serde_json.specs.declared.value.Value.{Value}
use Rattle.tpol_json.specs.declared.place.Place.{Place}
use Rattle.tpol_members.specs.declared.walk.Walk.{Walk}
use Rattle.tpol_members.specs.Walks.{Reading}
use Rattle.tpol_read.specs.Elements.{elements_of, elements_in, elements_from}
use Rattle.tpol_tree.specs.declared.policy.Element.{Element}

elements_of-some : (read : Data → Place → Reading Element) (values : List Value) (place : Place) (walk : Walk) → false ≡ nat_eq (length values) 0 → elements_of read (Some (items_view values)) place walk ≡ elements_from read 0 (items_view values) place walk
elements_of-some read [] place walk some = cc
elements_of-some read (value ∷ values) place walk some = refl

pub elements_in-each : (read : Data → Place → Reading Element) (d : Data) (values items : List Value) (place : Place) (walk : Walk) → d ≡ array (items_view values) → items ≡ values → false ≡ nat_eq (length items) 0 → elements_in read d place walk ≡ elements_from read 0 (items_view items) place walk
unfolding elements_in
elements_in-each read d values items place walk is_list same some =
    let P : List Value → Type 0 = λ vs. elements_in read (array (items_view vs)) place walk ≡ elements_from read 0 (items_view items) place walk in
    let Q : Data → Type 0 = λ e. elements_in read e place walk ≡ elements_from read 0 (items_view items) place walk in
    subst Q (sym is_list) (subst P same (elements_of-some read items place walk some))

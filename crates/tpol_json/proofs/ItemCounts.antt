-- A JSON list has as many items as the values that it is a view of.
use Rattle.std.proofs.Common.{◌≡◌, suc, List, [], ◌∷◌, length, refl, ap}
use Rattle.serde_json.specs.View.{items_view}
use Rattle.serde_json.specs.declared.value.Value.{Value}
use Rattle.tpol_json.specs.Members.{items_count}

pub items_count-items_view : (values : List Value) → items_count (items_view values) ≡ length values
items_count-items_view [] = refl
items_count-items_view (value ∷ values) = ap suc (items_count-items_view values)

pub ruleset counts = (items_count-items_view)

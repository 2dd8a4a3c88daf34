-- The walk over items, one more at a time.
use Rattle.std.proofs.Common.{◌≡◌, ℕ, List, [], ◌∷◌, map, take, length, ◌≤◌, refl, sym, ap, ◌∙◌}
use Rattle.std.proofs.lemmas.List.{take_all}
use Rattle.serde_json.specs.Data.{Data, item}
use Rattle.serde_json.specs.View.{items_of, items_view, view}
use Rattle.serde_json.specs.declared.value.Value.{Value}
use Rattle.tpol_export.specs.Rules.{item_rule}
use Rattle.tpol_export.specs.Spelling.{by_rule, spelled_as, spelled_items}
use Rattle.tpol_export.specs.declared.rules.Part.{Part}

-- what becomes of an item
abbrev pub kept_item : Part → Data → Data
kept_item part d = by_rule (item_rule part) (λ inner. spelled_as inner d) d

pub spelled_items-list : (part : Part) (ds : List Data) → spelled_items part (items_of ds) ≡ items_of (map (kept_item part) ds)
unfolding spelled_items
spelled_items-list part [] = refl
spelled_items-list part (d ∷ ds) = ap (item (kept_item part d)) (spelled_items-list part ds)

-- the end of a list
pub items_end : (part : Part) (kept items : List Value) (i : ℕ) → map view kept ≡ map (kept_item part) (map view (take i items)) → length items ≤ i → items_view kept ≡ spelled_items part (items_view items)
items_end part kept items i is all =
    ap items_of (is ∙ ap (λ vs. map (kept_item part) (map view vs)) (take_all i items all)) ∙ sym (spelled_items-list part (map view items))

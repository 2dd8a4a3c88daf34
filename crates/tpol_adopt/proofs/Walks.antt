-- The walk over items and members, one more at a time.
use Rattle.std.proofs.Common.{◌≡◌, ℕ, List, [], ◌∷◌, ◌++◌, Option, Some, None, Less, Greater, string_bytes, map, take, length, option_map, ◌≤◌, refl, sym, ap, ◌∙◌}
use Rattle.std.proofs.lemmas.Cmp.{nat_list_cmp_total}
use Rattle.std.proofs.lemmas.List.{take_all}
use Rattle.std.specs.Cmp.Lexicographic.{slice_cmp}
use Rattle.std.specs.List.{AllByRecursion, flat_map}
use Rattle.std.specs.List.Sorted.{IsStrictlySortedBy}
use Rattle.std.specs.Map.{keys_of}
use Rattle.std.specs.Ordering.{nat_cmp, ordering_reverse}
use Rattle.std.specs.String.{string_cmp}
use Rattle.serde_json.specs.Data.{Data, Members, no_members}
use Rattle.serde_json.specs.View.{items_of, items_view, view, members_view}
use Rattle.serde_json.specs.declared.value.Value.{Value}
use Rattle.serde_json.proofs.Views.{Entry}
use Rattle.tpol_adopt.specs.Normal.{by_rule, item_before, list_of, member_before, normal_as, normal_items, normal_members, with_member}
use Rattle.tpol_adopt.specs.Rules.{item_rule, member_rule}
use Rattle.tpol_adopt.specs.declared.rules.Part.{Part}
use Rattle.tpol_adopt.specs.declared.rules.Rule.{Rule}
use Rattle.tpol_adopt.specs.declared.rules.Rule.TheVariants.{Same, LeftOut, Inner, Edited}

-- what becomes of an item
abbrev pub kept_item : Part → Data → Option Data
kept_item part d = by_rule (item_rule part d) (λ inner. normal_as inner d) d

-- what becomes of a member
abbrev pub kept_member : Part → Data → List ℕ → Data → Option Data
kept_member part whole name d = by_rule (member_rule part whole name) (λ inner. normal_as inner d) d

-- the items of a list that are kept
abbrev pub kept_items : Part → List Data → List Data
kept_items part ds = flat_map (λ d. list_of (kept_item part d)) ds

item_before-list : (o : Option Data) (ds : List Data) → item_before o (items_of ds) ≡ items_of (list_of o ++ ds)
item_before-list None ds = refl
item_before-list (Some d) ds = refl

pub normal_items-list : (part : Part) (ds : List Data) → normal_items part (items_of ds) ≡ items_of (kept_items part ds)
unfolding normal_items
normal_items-list part [] = refl
normal_items-list part (d ∷ ds) =
    ap (item_before (kept_item part d)) (normal_items-list part ds) ∙ item_before-list (kept_item part d) (kept_items part ds)

below_middle : (first : Entry) (es : List Entry) (e : Entry) (more : List Entry) → AllByRecursion (λ y. string_cmp first.0 y ≡ Less) (keys_of (es ++ e ∷ more)) → string_cmp first.0 e.0 ≡ Less
below_middle first [] e more h = h.0
below_middle first (x ∷ es) e more h = below_middle first es e more h.1

last_alone : (name : List ℕ) (o : Option Data) → member_before name o no_members ≡ with_member name o no_members
last_alone name None = refl
last_alone name (Some d) = refl

behind : (first name : List ℕ) (o kept : Option Data) (ms : Members) → slice_cmp nat_cmp name first ≡ Greater
    → member_before first kept (with_member name o ms) ≡ with_member name o (member_before first kept ms)
behind first name None kept ms above = refl
behind first name (Some d) None ms above = refl
behind first name (Some d) (Some e) ms above = rw above refl

-- a member whose name is above those before it goes last
pub normal_members-last : (part : Part) (whole : Data) (done : List Entry) (e : Entry) (more : List Entry) → IsStrictlySortedBy string_cmp (keys_of (done ++ e ∷ more))
    → normal_members part whole (members_view (done ++ e ∷ []))
    ≡ with_member (string_bytes e.0) (kept_member part whole (string_bytes e.0) (view e.1)) (normal_members part whole (members_view done))
unfolding IsStrictlySortedBy normal_members
normal_members-last part whole [] e more h = last_alone (string_bytes e.0) (kept_member part whole (string_bytes e.0) (view e.1))
normal_members-last part whole (first ∷ done) e more h =
    let above : slice_cmp nat_cmp (string_bytes e.0) (string_bytes first.0) ≡ Greater =
    nat_list_cmp_total.antisymm (string_bytes e.0) (string_bytes first.0) ∙ ap ordering_reverse (below_middle first done e more h.0) in
    let kept = kept_member part whole (string_bytes first.0) (view first.1) in
    ap (member_before (string_bytes first.0) kept) (normal_members-last part whole done e more h.1)
    ∙ behind (string_bytes first.0) (string_bytes e.0) (kept_member part whole (string_bytes e.0) (view e.1)) kept (normal_members part whole (members_view done)) above

-- the end of a list
pub items_end : (part : Part) (kept items : List Value) (i : ℕ) → map view kept ≡ kept_items part (map view (take i items)) → length items ≤ i → items_view kept ≡ normal_items part (items_view items)
items_end part kept items i is all =
    ap items_of (is ∙ ap (λ vs. kept_items part (map view vs)) (take_all i items all)) ∙ sym (normal_items-list part (map view items))

-- a member that goes by its own rules
pub inner_kept : (part : Part) (whole : Data) (name text : List ℕ) (d : Data) (rule : Rule) (inner : Part) (v : Value) (kept : Option Value) → rule ≡ member_rule part whole text → text ≡ name → rule ≡ Inner inner → view v ≡ normal_as inner d → kept ≡ Some v
    → option_map view kept ≡ kept_member part whole name d
inner_kept part whole name text d rule inner v kept of_rule of_text is_inner of_view is =
    ap (option_map view) is ∙ ap Some of_view ∙ ap (λ r. by_rule r (λ i. normal_as i d) d) (sym is_inner ∙ of_rule ∙ ap (member_rule part whole) of_text)

plain_rule : (rule : Rule) (d : Data) → ((inner : Part) → rule ≡ Inner inner → ⊥) → by_rule rule (λ i. d) d ≡ by_rule rule (λ i. normal_as i d) d
plain_rule Same d plain = refl
plain_rule LeftOut d plain = refl
plain_rule (Inner inner) d plain = absurd (plain inner refl)
plain_rule (Edited edit) d plain = refl

-- a member that does not
pub plain_kept : (part : Part) (whole : Data) (name text : List ℕ) (d : Data) (rule : Rule) (v kept : Option Value) → rule ≡ member_rule part whole text → text ≡ name → ((inner : Part) → rule ≡ Inner inner → ⊥) → option_map view v ≡ by_rule rule (λ i. d) d → kept ≡ v
    → option_map view kept ≡ kept_member part whole name d
plain_kept part whole name text d rule v kept of_rule of_text plain of_view is =
    ap (option_map view) is ∙ of_view ∙ plain_rule rule d plain ∙ ap (λ r. by_rule r (λ i. normal_as i d) d) (of_rule ∙ ap (member_rule part whole) of_text)

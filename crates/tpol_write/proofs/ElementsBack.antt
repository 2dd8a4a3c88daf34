-- Elements, lists of elements, branches and ORs: what reading gives reads back from its canonical value, at any
-- place, and counts as many elements as before.
use Rattle.std.proofs.Common.{◌≡◌, ℕ, zero, suc, ◌+◌, ◌-◌, ◌≤◌, ◌==◌, Bool, true, false, List, [], ◌∷◌, codes, Option, Some, None, Ok, refl, ap, subst, ◌∙◌, arith, ne_eqb, if◌then◌else◌}
use Rattle.std.proofs.lemmas.Bool.{eqb-false, cond-true, cond-false}
use Rattle.serde_json.specs.Data.{Data, string, Items, no_items, item}
use Rattle.serde_json.specs.Find.{get, as_array}
use Rattle.serde_json.specs.View.{items_of}
use Rattle.tpol_write.proofs.BytesBack.{bound}
use Rattle.tpol_write.proofs.FieldsBack.{needed-back, optional-back}
use Rattle.tpol_write.proofs.RowsBack.{LeafBack, leaf_all, noted-none}
use Rattle.tpol_write.proofs.WishesBack.{Leaving}
use Rattle.tpol_json.specs.Places.{at_member, at_item}
use Rattle.tpol_json.specs.declared.place.Place.{Place}
use Rattle.tpol_json.proofs.AllFound.{AllFound, all_after, all_then, all_map, all_if, needed-fits}
use Rattle.tpol_read.specs.Elements.{element_type_in, leaf_element, element_of_type, element_by, counted, elements_from, elements_of, elements_in, policy_member, description_member, name_member, branch_in, branches_from, is_branch_count, branches_of, branches_in, or_by, or_at, element_at}
use Rattle.tpol_members.specs.Values.{text_in}
use Rattle.tpol_json.specs.Reading.{bad}
use Rattle.tpol_members.specs.Members.{object_in, needed, noted}
use Rattle.tpol_elements.specs.Rows.{leaf_row}
use Rattle.tpol_elements.specs.Types.{type_in}
use Rattle.tpol_members.specs.Walks.{Reading}
use Rattle.tpol_json.specs.Words.{find_word}
use Rattle.tpol_members.specs.declared.fault.PolicyKind.TheVariants as kinds
use Rattle.tpol_elements.specs.declared.types.ElementType.{ElementType}
use Rattle.tpol_elements.specs.declared.types.ElementType.TheVariants as types
use Rattle.tpol_elements.specs.declared.types.LeafType.{LeafType}
use Rattle.tpol_members.specs.declared.walk.Walk.{Walk}
use Rattle.tpol_tree.specs.Erased.{nowhere}
use Rattle.tpol_tree.specs.declared.policy.Branch.{Branch}
use Rattle.tpol_tree.specs.declared.policy.Branches.{Branches}
use Rattle.tpol_tree.specs.declared.policy.Branches.TheVariants as branches
use Rattle.tpol_tree.specs.declared.policy.Element.{Element}
use Rattle.tpol_tree.specs.declared.policy.Element.TheVariants.{Or}
use Rattle.tpol_tree.specs.declared.policy.Elements.{Elements}
use Rattle.tpol_tree.specs.declared.policy.Elements.TheVariants as elements
use Rattle.tpol_write.specs.Elements.{element_value, elements_values, branches_values, branch_value}
use Rattle.tpol_write.specs.Levels.{levels_of_element, levels_of_elements, levels_of_branches}
use Rattle.tpol_write.specs.Objects.{list_of}
use Rattle.tpol_json.specs.Members.{items_count}

-- ---- what reads back

-- a reading from any walk with room for so many elements, which takes them up
abbrev pub Takes : {A : Type 0} → (Place → Reading A) → A → ℕ → Type 0
Takes read x count = (place : Place) (notes : List Place) (left : ℕ) → read place (record { notes = notes; left = count + left }) ≡ Ok (x, record { notes = notes; left = left })

-- what was found has no more levels of ORs than these, and reads back, with as many elements as the walk counted
abbrev pub ReadsBack : {A : Type 0} → (A → ℕ) → (A → Place → Reading A) → ℕ → Walk → A × Walk → Type 0
ReadsBack levels_of read levels walk found = (count : ℕ) × (walk.left ≡ count + found.1.left) × (levels_of found.0 ≤ levels) × Takes (read found.0) found.0 count

abbrev pub Reader : Type 0
Reader = Data → Place → Reading Element

-- how each is read back from its canonical value
abbrev pub element_again : Reader → Element → Place → Reading Element
element_again read e place walk = read (element_value e) place walk

abbrev pub list_again : Reader → Elements → Place → Reading Elements
list_again read es place walk = elements_in read (list_of (elements_values es)) place walk

abbrev pub ElementBack : Reader → ℕ → Walk → Element × Walk → Type 0
ElementBack read levels walk found = ReadsBack levels_of_element (element_again read) levels walk found

abbrev pub ListBack : Reader → ℕ → Walk → Elements × Walk → Type 0
ListBack read levels walk found = ReadsBack levels_of_elements (list_again read) levels walk found

-- all that a reader of elements finds reads back
abbrev pub AllBack : Reader → ℕ → Type 0
AllBack read levels = (d : Data) (place : Place) (walk : Walk) → AllFound (ElementBack read levels walk) (read d place walk)

-- ---- an element, counted

less_one : (count left : ℕ) → (count + 1) + left - 1 ≡ count + left
less_one count left = omega arith

not_none : (count left : ℕ) → ((count + 1) + left == 0) ≡ false
not_none count left = ne_eqb ((count + 1) + left) 0 (λ e. omega (arith, e))

counted-takes : (read : Reader) (e : Element) (count : ℕ) → Takes (element_again read e) e count → Takes (λ place walk. counted read (element_value e) place walk) e (count + 1)
unfolding counted
counted-takes read e count takes place notes left =
    cond-false ((count + 1) + left == 0) (bad kinds.TooMany place) (read (element_value e) place (record { notes = notes; left = (count + 1) + left - 1 })) (not_none count left)
    ∙ ap (λ n. read (element_value e) place (record { notes = notes; left = n })) (less_one count left) ∙ takes place notes left

-- what a counted reading finds
abbrev CountedBack : Reader → ℕ → Walk → Element × Walk → Type 0
CountedBack read levels walk found = (count : ℕ) × (walk.left ≡ count + found.1.left) × (levels_of_element found.0 ≤ levels) × Takes (λ place w. counted read (element_value found.0) place w) found.0 count

counted-all : (read : Reader) (levels : ℕ) → AllBack read levels → (d : Data) (place : Place) (walk : Walk) → AllFound (CountedBack read levels walk) (counted read d place walk)
unfolding counted
counted-all read levels all d place walk = by_test (walk.left == 0) refl
  where
    by_test : (test : Bool) → (walk.left == 0) ≡ test → AllFound (CountedBack read levels walk) (if test then bad kinds.TooMany place else read d place (record walk { left = walk.left - 1 }))
    by_test true none = tt {0}
    by_test false some =
        let before : Walk = record walk { left = walk.left - 1 } in
        all_map (ElementBack read levels before) (CountedBack read levels walk) (read d place before) (all d place before)
        (λ found back. (back.0 + 1, left_is (walk.left) back.0 found.1.left some back.1, back.2, counted-takes read found.0 back.0 back.3))
      where
        left_is : (left count after : ℕ) → (left == 0) ≡ false → left - 1 ≡ count + after → left ≡ (count + 1) + after
        left_is left count after some less = omega (arith, less, eqb-false left 0 some)

-- ---- lists of elements

abbrev ItemsBack : Reader → ℕ → Walk → Elements × Walk → Type 0
ItemsBack read levels walk found = (count : ℕ) × (walk.left ≡ count + found.1.left) × (levels_of_elements found.0 ≤ levels)
    × ((index : ℕ) → Takes (λ place w. elements_from read index (items_of (elements_values found.0)) place w) found.0 count)

more-takes : (read : Reader) (e : Element) (es : Elements) (count more : ℕ) → Takes (λ place w. counted read (element_value e) place w) e count → ((index : ℕ) → Takes (λ place w. elements_from read index (items_of (elements_values es)) place w) es more) → (index : ℕ) → Takes (λ place w. elements_from read index (item (element_value e) (items_of (elements_values es))) place w) (elements.More' nowhere e nowhere es) (count + more)
unfolding elements_from
more-takes read e es count more takes takes_rest index place notes left =
    bound (counted read (element_value e) (at_item place index) (record { notes = notes; left = (count + more) + left })) (e, record { notes = notes; left = more + left }) _ _
    (ap (λ n. counted read (element_value e) (at_item place index) (record { notes = notes; left = n })) (omega_assoc count more left) ∙ takes (at_item place index) notes (more + left))
    (bound (elements_from read (suc index) (items_of (elements_values es)) place (record { notes = notes; left = more + left })) (es, record { notes = notes; left = left }) _ _ (takes_rest (suc index) place notes left) refl)
  where
    omega_assoc : (a b c : ℕ) → (a + b) + c ≡ a + (b + c)
    omega_assoc a b c = omega arith

items-all : (read : Reader) (levels : ℕ) → AllBack read levels → (index : ℕ) (ds : Items) (place : Place) (walk : Walk) → AllFound (ItemsBack read levels walk) (elements_from read index ds place walk)
unfolding elements_from
items-all read levels all index no_items place walk = (0, omega arith, omega arith, λ i p notes left. ap (λ n. Ok (elements.End, record { notes = notes; left = n })) (zero_left left))
  where
    zero_left : (n : ℕ) → 0 + n ≡ n
    zero_left n = omega arith
items-all read levels all index (item d ds) place walk =
    all_then (CountedBack read levels walk) (ItemsBack read levels walk) (counted read d (at_item place index) walk) _ (counted-all read levels all d (at_item place index) walk)
    (λ first is. all_then (ItemsBack read levels first.1) (ItemsBack read levels walk) (elements_from read (suc index) ds place first.1) _ (items-all read levels all (suc index) ds place first.1)
    (λ rest are. (is.0 + are.0, omega (arith, is.1, are.1), omega (arith, is.2, are.2), more-takes read first.0 rest.0 is.0 are.0 is.3 are.3)))

list-takes : (read : Reader) (e : Element) (es : Elements) (count : ℕ) → ((index : ℕ) → Takes (λ place w. elements_from read index (item (element_value e) (items_of (elements_values es))) place w) (elements.More' nowhere e nowhere es) count) → Takes (list_again read (elements.More' nowhere e nowhere es)) (elements.More' nowhere e nowhere es) count
unfolding elements_in
list-takes read e es count takes place notes left = takes 0 place notes left

some-all : (read : Reader) (levels : ℕ) → AllBack read levels → (d : Data) (ds : Items) (place : Place) (walk : Walk) → AllFound (ListBack read levels walk) (elements_from read 0 (item d ds) place walk)
unfolding elements_from
some-all read levels all d ds place walk =
    all_then (CountedBack read levels walk) (ListBack read levels walk) (counted read d (at_item place 0) walk) _ (counted-all read levels all d (at_item place 0) walk)
    (λ first is. all_then (ItemsBack read levels first.1) (ListBack read levels walk) (elements_from read 1 ds place first.1) _ (items-all read levels all 1 ds place first.1)
    (λ rest are. (is.0 + are.0, omega (arith, is.1, are.1), omega (arith, is.2, are.2), list-takes read first.0 rest.0 (is.0 + are.0) (more-takes read first.0 rest.0 is.0 are.0 is.3 are.3))))

pub list-all : (read : Reader) (levels : ℕ) → AllBack read levels → (d : Data) (place : Place) (walk : Walk) → AllFound (ListBack read levels walk) (elements_in read d place walk)
unfolding elements_in
list-all read levels all d place walk = by_items (as_array d)
  where
    by_items : (items : Option Items) → AllFound (ListBack read levels walk) (elements_of read items place walk)
    by_items None = tt {0}
    by_items (Some no_items) = tt {0}
    by_items (Some (item e ds)) = some-all read levels all e ds place walk

pub policy-all : (read : Reader) (levels : ℕ) → AllBack read levels → (d : Data) (place : Place) (walk : Walk) → AllFound (ListBack read levels walk) (policy_member read d place walk)
unfolding policy_member
policy-all read levels all d place walk =
    needed-fits (ListBack read levels walk) kinds.Missing (λ e p. elements_in read e p walk) (get (codes "policy") d) (at_member place (codes "policy")) (λ e p. list-all read levels all e p walk)

pub policy-takes : (read : Reader) (es : Elements) (count : ℕ) (d : Data) → get (codes "policy") d ≡ Some (list_of (elements_values es)) → Takes (list_again read es) es count → Takes (λ place w. policy_member read d place w) es count
unfolding policy_member
policy-takes read es count d has takes place notes left =
    needed-back (λ e p. elements_in read e p (record { notes = notes; left = count + left })) (get (codes "policy") d) (list_of (elements_values es)) (es, record { notes = notes; left = left }) (at_member place (codes "policy")) has
    (takes (at_member place (codes "policy")) notes left)

-- ---- branches

pub description-back : (description : List ℕ) (d : Data) (place : Place) → get (codes "description") d ≡ Some (string description) → description_member d place ≡ Ok description
unfolding description_member
description-back description d place has = optional-back text_in [] (get (codes "description") d) (string description) description (at_member place (codes "description")) has refl

name-back : (name : List ℕ) (d : Data) (place : Place) → get (codes "name") d ≡ Some (string name) → name_member d place ≡ Ok name
unfolding name_member
name-back name d place has = optional-back text_in [] (get (codes "name") d) (string name) name (at_member place (codes "name")) has refl

abbrev value_of_branch : Branch → Data
value_of_branch branch = branch_value branch.name branch.description (elements_values branch.elements)

abbrev BranchBack : Reader → ℕ → Walk → Branch × Walk → Type 0
BranchBack read levels walk found = (count : ℕ) × (walk.left ≡ count + found.1.left) × (levels_of_elements found.0.elements ≤ levels)
    × Takes (λ place w. branch_in read (value_of_branch found.0) place w) found.0 count

branch-takes : (read : Reader) (branch : Branch) (count : ℕ) → Takes (list_again read branch.elements) branch.elements count → Takes (λ place w. branch_in read (value_of_branch branch) place w) branch count
unfolding branch_in
branch-takes read branch count takes place notes left =
    let d = value_of_branch branch in
    let before : Walk = record { notes = notes; left = count + left } in
    let after : Walk = record { notes = notes; left = left } in
    bound (name_member d place) branch.name _ (Ok (branch, after)) (name-back branch.name d place refl)
    (bound (description_member d place) branch.description _ (Ok (branch, after)) (description-back branch.description d place refl)
    (bound (policy_member read d place before) (branch.elements, after) _ (Ok (branch, after)) (policy-takes read branch.elements count d refl takes place notes left)
    (ap (λ w. Ok (branch, w)) (noted-none (codes "name" ∷ codes "description" ∷ codes "policy" ∷ []) d place after refl))))

branch-all : (read : Reader) (levels : ℕ) → AllBack read levels → (d : Data) (place : Place) (walk : Walk) → AllFound (BranchBack read levels walk) (branch_in read d place walk)
unfolding branch_in noted
branch-all read levels all d place walk =
    all_after (BranchBack read levels walk) (object_in d place) _
    (λ _. all_after (BranchBack read levels walk) (name_member d place) _
    (λ name. all_after (BranchBack read levels walk) (description_member d place) _
    (λ description. all_then (ListBack read levels walk) (BranchBack read levels walk) (policy_member read d place walk) _ (policy-all read levels all d place walk)
    (λ found back. (back.0, back.1, back.2, branch-takes read (record { name = name; description = description; elements = found.0 }) back.0 back.3)))))

-- so many branches
abbrev BranchesBack : Reader → ℕ → ℕ → Walk → Branches × Walk → Type 0
BranchesBack read levels number walk found = (count : ℕ) × (walk.left ≡ count + found.1.left) × (levels_of_branches found.0 ≤ levels)
    × (items_count (items_of (branches_values found.0)) ≡ number)
    × ((index : ℕ) → Takes (λ place w. branches_from read index (items_of (branches_values found.0)) place w) found.0 count)

more_branches-takes : (read : Reader) (branch : Branch) (bs : Branches) (count more : ℕ) → Takes (λ place w. branch_in read (value_of_branch branch) place w) branch count → ((index : ℕ) → Takes (λ place w. branches_from read index (items_of (branches_values bs)) place w) bs more) → (index : ℕ) → Takes (λ place w. branches_from read index (item (value_of_branch branch) (items_of (branches_values bs))) place w) (branches.More' nowhere branch.name branch.description branch.elements nowhere bs) (count + more)
unfolding branches_from
more_branches-takes read branch bs count more takes takes_rest index place notes left =
    bound (branch_in read (value_of_branch branch) (at_item place index) (record { notes = notes; left = (count + more) + left })) (branch, record { notes = notes; left = more + left }) _ _
    (ap (λ n. branch_in read (value_of_branch branch) (at_item place index) (record { notes = notes; left = n })) (omega_assoc count more left) ∙ takes (at_item place index) notes (more + left))
    (bound (branches_from read (suc index) (items_of (branches_values bs)) place (record { notes = notes; left = more + left })) (bs, record { notes = notes; left = left }) _ _ (takes_rest (suc index) place notes left) refl)
  where
    omega_assoc : (a b c : ℕ) → (a + b) + c ≡ a + (b + c)
    omega_assoc a b c = omega arith

branches-all : (read : Reader) (levels : ℕ) → AllBack read levels → (index : ℕ) (ds : Items) (place : Place) (walk : Walk) → AllFound (BranchesBack read levels (items_count ds) walk) (branches_from read index ds place walk)
unfolding branches_from
branches-all read levels all index no_items place walk = (0, omega arith, omega arith, refl, λ i p notes left. ap (λ n. Ok (branches.End, record { notes = notes; left = n })) (zero_left left))
  where
    zero_left : (n : ℕ) → 0 + n ≡ n
    zero_left n = omega arith
branches-all read levels all index (item d ds) place walk =
    all_then (BranchBack read levels walk) (BranchesBack read levels (suc (items_count ds)) walk) (branch_in read d (at_item place index) walk) _ (branch-all read levels all d (at_item place index) walk)
    (λ first is. all_then (BranchesBack read levels (items_count ds) first.1) (BranchesBack read levels (suc (items_count ds)) walk) (branches_from read (suc index) ds place first.1) _ (branches-all read levels all (suc index) ds place first.1)
    (λ rest are. (is.0 + are.0, omega (arith, is.1, are.1), omega (arith, is.2, are.2), ap suc are.3, more_branches-takes read first.0 rest.0 is.0 are.0 is.3 are.4)))

-- ---- ORs

-- the branches of an OR, read back as those of the OR's canonical value
abbrev pub OrBack : (Data → Place → Reading Branches) → ℕ → Walk → Branches × Walk → Type 0
OrBack or levels walk found = (count : ℕ) × (walk.left ≡ count + found.1.left) × (levels_of_branches found.0 + 1 ≤ levels)
    × Takes (λ place w. or (element_value (Or found.0)) place w) found.0 count

abbrev pub AllOrs : (Data → Place → Reading Branches) → ℕ → Type 0
AllOrs or levels = (d : Data) (place : Place) (walk : Walk) → AllFound (OrBack or levels walk) (or d place walk)

or-takes : (read : Reader) (bs : Branches) (count : ℕ) → is_branch_count (items_count (items_of (branches_values bs))) ≡ true → ((index : ℕ) → Takes (λ place w. branches_from read index (items_of (branches_values bs)) place w) bs count) → Takes (λ place w. or_by read (element_value (Or bs)) place w) bs count
unfolding or_by branches_in
or-takes read bs count right takes place notes left =
    let before : Walk = record { notes = notes; left = count + left } in
    let at = at_member place (codes "branches") in
    cond-true (is_branch_count (items_count (items_of (branches_values bs)))) (branches_from read 0 (items_of (branches_values bs)) at before) (bad kinds.BranchCount at) right
    ∙ takes 0 at notes left

or_by-all : (read : Reader) (levels : ℕ) → AllBack read levels → AllOrs (or_by read) (levels + 1)
unfolding or_by branches_in
or_by-all read levels all d place walk =
    needed-fits (OrBack (or_by read) (levels + 1) walk) kinds.Missing (λ e p. branches_in read e p walk) (get (codes "branches") d) (at_member place (codes "branches"))
    (λ e p. by_items (as_array e) p)
  where
    by_items : (items : Option Items) (at : Place) → AllFound (OrBack (or_by read) (levels + 1) walk) (branches_of read items at walk)
    by_items None at = tt {0}
    by_items (Some ds) at =
        all_if (OrBack (or_by read) (levels + 1) walk) (is_branch_count (items_count ds)) (branches_from read 0 ds at walk) _
        (λ right. all_map (BranchesBack read levels (items_count ds) walk) _ (branches_from read 0 ds at walk) (branches-all read levels all 0 ds at walk)
        (λ found back. (back.0, back.1, omega (arith, back.2), or-takes read found.0 back.0 (ap is_branch_count back.3 ∙ right) back.4)))
        (tt {0})

or_type : (place : Place) → type_in (string (codes "POLICYOR")) place ≡ Ok types.Or
unfolding type_in find_word
or_type place = refl

or_element-takes : (or : Data → Place → Reading Branches) (bs : Branches) (count : ℕ) → Takes (λ place w. or (element_value (Or bs)) place w) bs count → Takes (element_again (element_by or) (Or bs)) (Or bs) count
unfolding element_by element_type_in element_of_type
or_element-takes or bs count takes place notes left =
    let d = element_value (Or bs) in
    let before : Walk = record { notes = notes; left = count + left } in
    let after : Walk = record { notes = notes; left = left } in
    bound (element_type_in d place) types.Or (λ t. element_of_type or t d place before) (Ok (Or bs, after))
    (bound (object_in d place) tt (λ _. needed type_in (codes "type") d place) (Ok types.Or) refl (or_type (at_member place (codes "type"))))
    (bound (or d place before) (bs, after) (λ found. Ok (Or found.0, noted (codes "type" ∷ codes "branches" ∷ []) d place found.1)) (Ok (Or bs, after)) (takes place notes left)
    (ap (λ w. Ok (Or bs, w)) (noted-none (codes "type" ∷ codes "branches" ∷ []) d place after refl)))

leaf-takes : (or : Data → Place → Reading Branches) (e : Element) → LeafBack e → Takes (element_again (element_by or) e) e 0
leaf-takes or e back place notes left = ap (λ n. element_by or (element_value e) place (record { notes = notes; left = n })) (zero_left left) ∙ back.1 or place (record { notes = notes; left = left })
  where
    zero_left : (n : ℕ) → 0 + n ≡ n
    zero_left n = omega arith

leaf_element-all : (or : Data → Place → Reading Branches) (levels : ℕ) (leaf : LeafType) (d : Data) (place : Place) (walk : Walk) → AllFound (ElementBack (element_by or) levels walk) (leaf_element leaf d place walk)
unfolding leaf_element noted
leaf_element-all or levels leaf d place walk =
    all_then (Leaving LeafBack walk) (ElementBack (element_by or) levels walk) (leaf_row leaf d place walk) _ (leaf_all leaf d place walk)
    (λ found back. (0, omega (arith, back.0), omega (arith, back.1.0), leaf-takes or found.0 back.1))

of_type-all : (or : Data → Place → Reading Branches) (levels : ℕ) → AllOrs or levels → (type : ElementType) (d : Data) (place : Place) (walk : Walk) → AllFound (ElementBack (element_by or) levels walk) (element_of_type or type d place walk)
unfolding element_of_type noted
of_type-all or levels ors types.Or d place walk =
    all_then (OrBack or levels walk) (ElementBack (element_by or) levels walk) (or d place walk) _ (ors d place walk)
    (λ found back. (back.0, back.1, back.2, or_element-takes or found.0 back.0 back.3))
of_type-all or levels ors (types.Leaf leaf) d place walk = leaf_element-all or levels leaf d place walk
of_type-all or levels ors types.Unsupported d place walk = tt {0}

element_by-all : (or : Data → Place → Reading Branches) (levels : ℕ) → AllOrs or levels → AllBack (element_by or) levels
unfolding element_by
element_by-all or levels ors d place walk = all_after (ElementBack (element_by or) levels walk) (element_type_in d place) _ (λ type. of_type-all or levels ors type d place walk)

or_at-all : (levels : ℕ) → AllOrs (or_at levels) levels
unfolding or_at
or_at-all zero d place walk = tt {0}
or_at-all (suc levels) d place walk =
    subst (λ n. AllFound (OrBack (or_by (element_by (or_at levels))) n walk) (or_by (element_by (or_at levels)) d place walk)) (suc_is levels)
    (or_by-all (element_by (or_at levels)) levels (element_by-all (or_at levels) levels (or_at-all levels)) d place walk)
  where
    suc_is : (n : ℕ) → n + 1 ≡ suc n
    suc_is n = omega arith

-- all that the reader of elements finds reads back
pub element_at-all : (levels : ℕ) → AllBack (element_at levels) levels
element_at-all levels = element_by-all (or_at levels) levels (or_at-all levels)

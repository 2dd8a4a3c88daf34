-- Elements, branches and documents say the same in their new spelling.
use Rattle.std.proofs.Common.{◌≡◌, ℕ, zero, suc, ◌-◌, ◌==◌, List, [], ◌∷◌, Option, Some, None, option_map, option_and_then, codes, true, false, true≢false, Ok, Err, refl, sym, ap, ◌∙◌, subst, if◌then◌else◌}
use Rattle.std.specs.Prelude.{⊤}
use Rattle.serde_json.specs.Data.{Data, Items, no_items, item, null, boolean, number, string, array, object}
use Rattle.serde_json.specs.Find.{get}
use Rattle.tpol_base.specs.Answers.{◌>>=◌}
use Rattle.tpol_json.specs.Members.{items_count}
use Rattle.tpol_json.specs.Reading.{bad}
use Rattle.tpol_json.specs.Places.{at_item, at_member, root}
use Rattle.tpol_json.specs.declared.place.Place.{Place}
use Rattle.tpol_members.specs.Faults.{Found}
use Rattle.tpol_members.specs.Members.{needed, object_in, read_needed}
use Rattle.tpol_members.specs.Values.{text_in}
use Rattle.tpol_members.specs.declared.fault.PolicyKind.TheVariants as kinds
use Rattle.tpol_members.specs.Walks.{Reading}
use Rattle.tpol_members.specs.Words.{found_or}
use Rattle.tpol_members.specs.declared.walk.Walk.{Walk}
use Rattle.tpol_elements.specs.Rows.{leaf_row}
use Rattle.tpol_elements.specs.Types.{element_types, type_in, leaf_members}
use Rattle.tpol_json.specs.Words.{find_word}
use Rattle.tpol_members.specs.declared.fault.PolicyKind.{PolicyKind}
use Rattle.tpol_elements.specs.declared.types.ElementType.{ElementType}
use Rattle.tpol_elements.specs.declared.types.ElementType.TheVariants.{Or, Leaf, Unsupported}
use Rattle.tpol_elements.specs.declared.types.LeafType.{LeafType}
use Rattle.tpol_elements.specs.declared.types.LeafType.TheVariants as types
use Rattle.tpol_read.specs.Elements.{branch_in, branches_from, branches_in, branches_of, counted, description_member, element_at, element_by, element_of_type, element_type_in, elements_from, elements_in, is_branch_count, leaf_element, name_member, or_at, or_by, policy_member}
use Rattle.tpol_tree.specs.declared.policy.Branches.{Branches}
use Rattle.tpol_tree.specs.declared.policy.Element.{Element as TreeElement}
use Rattle.tpol_adopt.specs.Normal.{normal_as, normal_items}
use Rattle.tpol_adopt.specs.Rules.{found, item_rule, member_rule, new_scheme, type_of}
use Rattle.tpol_adopt.specs.declared.rules.Part.TheVariants.{Branch, Branches as BranchList, Element, Elements}
use Rattle.tpol_adopt.specs.declared.rules.Rule.TheVariants.{Same}
use Rattle.tpol_adopt.proofs.Elements.{element-plain, leaf_row-keeps}
use Rattle.tpol_adopt.proofs.Fields.{optional-same}
use Rattle.tpol_adopt.proofs.Keeping.{IsThinner, Keeps, follows_same, keeps_after, keeps_if, keeps_then}
use Rattle.tpol_adopt.proofs.Notes.{noted-thinner, unknown-plain}
use Rattle.tpol_adopt.proofs.Publics.{object_in-normal}
use Rattle.tpol_adopt.proofs.Ruled.{get-inner, get-same}

-- ---- types

pub type_stays : (type : Option ElementType) (d : Data) → member_rule (Element type) d (codes "type") ≡ Same
unfolding member_rule
type_stays None d = refl
type_stays (Some Or) d = refl
type_stays (Some Unsupported) d = refl
type_stays (Some (Leaf types.Pcr)) d = refl
type_stays (Some (Leaf types.Nv)) d = refl
type_stays (Some (Leaf types.Secret)) d = refl
type_stays (Some (Leaf types.Signed)) d = refl
type_stays (Some (Leaf types.Authorize)) d = refl
type_stays (Some (Leaf types.AuthorizeNv)) d = refl
type_stays (Some (Leaf types.Locality)) d = refl
type_stays (Some (Leaf types.CommandCode)) d = refl
type_stays (Some (Leaf types.CpHash)) d = refl
type_stays (Some (Leaf types.NameHash)) d = refl
type_stays (Some (Leaf types.CounterTimer)) d = refl
type_stays (Some (Leaf types.DuplicationSelect)) d = refl
type_stays (Some (Leaf types.NvWritten)) d = refl
type_stays (Some (Leaf types.AuthValue)) d = refl
type_stays (Some (Leaf types.Password)) d = refl
type_stays (Some (Leaf types.PhysicalPresence)) d = refl

pub element_type-normal : (type : Option ElementType) (d : Data) (place : Place) → element_type_in (normal_as (Element type) d) place ≡ element_type_in d place
unfolding element_type_in
element_type-normal type d place =
    ap (λ r. r >>= λ _. read_needed type_in (get (codes "type") (normal_as (Element type) d)) (at_member place (codes "type"))) (object_in-normal (Element type) d place)
    ∙ ap (λ o. object_in d place >>= λ _. read_needed type_in o (at_member place (codes "type"))) (get-same (Element type) d (codes "type") (element-plain type d) (type_stays type d))

-- a type does not rest on its place
found_or-placed : {A : Type 0} (o : Option A) (x : A) (one other : Found A) → found_or o one ≡ Ok x → (one ≡ Ok x → ⊥) → found_or o other ≡ Ok x
found_or-placed (Some y) x one other is never = is
found_or-placed None x one other is never = absurd (never is)

refused : {kind : PolicyKind} {place : Place} {x : ElementType} → bad {A = ElementType} kind place ≡ Ok x → ⊥
refused {kind} {place} {x} is = let never : true ≡ false = cc in true≢false never

type_in-placed : (e : Data) (type : ElementType) (place other : Place) → type_in e place ≡ Ok type → type_in e other ≡ Ok type
unfolding type_in
type_in-placed null type place other is = cc
type_in-placed (boolean b) type place other is = cc
type_in-placed (number n) type place other is = cc
type_in-placed (string s) type place other is =
    found_or-placed (find_word (codes "POLICY") element_types s) type (bad kinds.UnknownType place) (bad kinds.UnknownType other) is refused
type_in-placed (array ds) type place other is = cc
type_in-placed (object ms) type place other is = cc

type_by : (o : Option Data) (type : ElementType) (place : Place) → read_needed type_in o place ≡ Ok type → option_and_then (λ e. found (type_in e root)) o ≡ Some type
type_by None type place is = cc
type_by (Some e) type place is = ap found (type_in-placed e type place root is)

after_object : (r : Found ⊤) (next : Found ElementType) (type : ElementType) → (r >>= λ _. next) ≡ Ok type → next ≡ Ok type
after_object (Ok x) next type is = is
after_object (Err fault) next type is = cc

type_of-read : (d : Data) (place : Place) (type : ElementType) → element_type_in d place ≡ Ok type → type_of d ≡ Some type
unfolding element_type_in type_of
type_of-read d place type is = type_by (get (codes "type") d) type (at_member place (codes "type")) (after_object (object_in d place) _ type is)

-- ---- elements, where the branches of ORs are kept so

abbrev OrKeeps : (Data → Place → Reading Branches) → Type 0
OrKeeps or = (d : Data) (place : Place) (fewer walk : Walk) → IsThinner fewer walk → Keeps (or d place walk) (or (normal_as (Element (Some Or)) d) place fewer)

leaf_element-keeps : (leaf : LeafType) (d : Data) (place : Place) (fewer walk : Walk) → IsThinner fewer walk → Keeps (leaf_element leaf d place walk) (leaf_element leaf (normal_as (Element (Some (Leaf leaf))) d) place fewer)
unfolding leaf_element
leaf_element-keeps leaf d place fewer walk thinner =
    let part = Element (Some (Leaf leaf)) in
    keeps_then (leaf_row leaf d place walk) (leaf_row leaf (normal_as part d) place fewer) _ _ (leaf_row-keeps leaf d place fewer walk thinner)
    (λ x fewer' walk' thinner'. (refl, noted-thinner (leaf_members leaf) d (normal_as part d) place fewer' walk' thinner' (unknown-plain (leaf_members leaf) place part d (element-plain (Some (Leaf leaf)) d))))

element_of_type-keeps : (or : Data → Place → Reading Branches) → OrKeeps or → (type : ElementType) (d : Data) (place : Place) (fewer walk : Walk) → IsThinner fewer walk → Keeps (element_of_type or type d place walk) (element_of_type or type (normal_as (Element (Some type)) d) place fewer)
unfolding element_of_type
element_of_type-keeps or keeps Or d place fewer walk thinner =
    let part = Element (Some Or) in
    keeps_then (or d place walk) (or (normal_as part d) place fewer) _ _ (keeps d place fewer walk thinner)
    (λ x fewer' walk' thinner'. (refl, noted-thinner (codes "type" ∷ codes "branches" ∷ []) d (normal_as part d) place fewer' walk' thinner' (unknown-plain (codes "type" ∷ codes "branches" ∷ []) place part d (element-plain (Some Or) d))))
element_of_type-keeps or keeps (Leaf leaf) d place fewer walk thinner = leaf_element-keeps leaf d place fewer walk thinner
element_of_type-keeps or keeps Unsupported d place fewer walk thinner = tt {0}

abbrev pub ElementKeeps : (Data → Place → Reading TreeElement) → Type 0
ElementKeeps read = (d : Data) (place : Place) (fewer walk : Walk) → IsThinner fewer walk → Keeps (read d place walk) (read (normal_as (Element (type_of d)) d) place fewer)

element_by-keeps : (or : Data → Place → Reading Branches) → OrKeeps or → ElementKeeps (element_by or)
unfolding element_by
element_by-keeps or keeps d place fewer walk thinner =
    keeps_after (element_type_in d place) (element_type_in (normal_as (Element (type_of d)) d) place) _ _ (follows_same _ _ (element_type-normal (type_of d) d place))
    (λ type is.
    subst (λ t. Keeps (element_of_type or type d place walk) (element_of_type or type (normal_as (Element t) d) place fewer)) (sym (type_of-read d place type is))
    (element_of_type-keeps or keeps type d place fewer walk thinner))

counted-keeps : (read : Data → Place → Reading TreeElement) → ElementKeeps read → ElementKeeps (counted read)
unfolding counted
counted-keeps read keeps d place fewer walk thinner =
    let d' = normal_as (Element (type_of d)) d in
    subst (λ left. Keeps (if walk.left == 0 then bad kinds.TooMany place else read d place (record walk { left = walk.left - 1 })) (if left == 0 then bad kinds.TooMany place else read d' place (record fewer { left = left - 1 }))) (sym thinner.left)
    (keeps_if (walk.left == 0) _ _ _ _ (λ _. tt {0}) (λ _. keeps d place _ _ (record { left = refl; notes = thinner.notes })))

elements_from-keeps : (read : Data → Place → Reading TreeElement) → ElementKeeps read → (index : ℕ) (ds : Items) (place : Place) (fewer walk : Walk) → IsThinner fewer walk → Keeps (elements_from read index ds place walk) (elements_from read index (normal_items Elements ds) place fewer)
unfolding elements_from normal_items item_rule
elements_from-keeps read keeps index no_items place fewer walk thinner = (refl, thinner)
elements_from-keeps read keeps index (item d ds) place fewer walk thinner =
    keeps_then (counted read d (at_item place index) walk) (counted read (normal_as (Element (type_of d)) d) (at_item place index) fewer) _ _ (counted-keeps read keeps d (at_item place index) fewer walk thinner)
    (λ first fewer' walk' thinner'.
    keeps_then (elements_from read (suc index) ds place walk') (elements_from read (suc index) (normal_items Elements ds) place fewer') _ _ (elements_from-keeps read keeps (suc index) ds place fewer' walk' thinner')
    (λ rest fewer'' walk'' thinner''. (refl, thinner'')))

-- a list of elements; what is none stays
elements_in-keeps : (read : Data → Place → Reading TreeElement) → ElementKeeps read → (d : Data) (place : Place) (fewer walk : Walk) → IsThinner fewer walk → Keeps (elements_in read d place walk) (elements_in read (normal_as Elements d) place fewer)
unfolding elements_in normal_as normal_items item_rule
elements_in-keeps read keeps null place fewer walk thinner = tt {0}
elements_in-keeps read keeps (boolean b) place fewer walk thinner = tt {0}
elements_in-keeps read keeps (number n) place fewer walk thinner = tt {0}
elements_in-keeps read keeps (string s) place fewer walk thinner = tt {0}
elements_in-keeps read keeps (array no_items) place fewer walk thinner = tt {0}
elements_in-keeps read keeps (array (item d ds)) place fewer walk thinner = elements_from-keeps read keeps 0 (item d ds) place fewer walk thinner
elements_in-keeps read keeps (object ms) place fewer walk thinner = tt {0}

needed_at-keeps : {A : Type 0} (read again : Data → Place → Found (A × Walk)) (f : Data → Data) (o : Option Data) (place : Place) → ((e : Data) (at : Place) → Keeps (read e at) (again (f e) at)) → Keeps (read_needed read o place) (read_needed again (option_map f o) place)
needed_at-keeps read again f None place all = tt {0}
needed_at-keeps read again f (Some e) place all = all e place

-- a member that has to be there, spelled otherwise
pub needed-keeps : {A : Type 0} (read again : Data → Place → Found (A × Walk)) (f : Data → Data) (name : List ℕ) (d d' : Data) (place : Place) → get name d' ≡ option_map f (get name d) → ((e : Data) (at : Place) → Keeps (read e at) (again (f e) at)) → Keeps (needed read name d place) (needed again name d' place)
needed-keeps read again f name d d' place is all =
    subst (λ o. Keeps (needed read name d place) (read_needed again o (at_member place name))) (sym is) (needed_at-keeps read again f (get name d) (at_member place name) all)

pub policy-keeps : (read : Data → Place → Reading TreeElement) → ElementKeeps read → (d d' : Data) (place : Place) (fewer walk : Walk) → IsThinner fewer walk → get (codes "policy") d' ≡ option_map (normal_as Elements) (get (codes "policy") d) → Keeps (policy_member read d place walk) (policy_member read d' place fewer)
unfolding policy_member
policy-keeps read keeps d d' place fewer walk thinner is =
    needed-keeps _ _ (normal_as Elements) (codes "policy") d d' place is (λ e at. elements_in-keeps read keeps e at fewer walk thinner)

-- ---- branches

branch_plain : (d : Data) → new_scheme Branch d ≡ None
unfolding new_scheme
branch_plain d = refl

abbrev branch_members : List (List ℕ)
branch_members = codes "name" ∷ codes "description" ∷ codes "policy" ∷ []

branch_in-keeps : (read : Data → Place → Reading TreeElement) → ElementKeeps read → (d : Data) (place : Place) (fewer walk : Walk) → IsThinner fewer walk → Keeps (branch_in read d place walk) (branch_in read (normal_as Branch d) place fewer)
unfolding branch_in name_member description_member member_rule
branch_in-keeps read keeps d place fewer walk thinner =
    let d' = normal_as Branch d in
    keeps_after (object_in d place) (object_in d' place) _ _ (follows_same _ _ (object_in-normal Branch d place))
    (λ _ _. keeps_after (name_member d place) (name_member d' place) _ _ (optional-same text_in [] (codes "name") d d' place (get-same Branch d (codes "name") (branch_plain d) refl))
    (λ name _. keeps_after (description_member d place) (description_member d' place) _ _ (optional-same text_in [] (codes "description") d d' place (get-same Branch d (codes "description") (branch_plain d) refl))
    (λ description _. keeps_then (policy_member read d place walk) (policy_member read d' place fewer) _ _
    (policy-keeps read keeps d d' place fewer walk thinner (get-inner Branch d (codes "policy") (branch_plain d) Elements refl))
    (λ x fewer' walk' thinner'. (refl, noted-thinner branch_members d d' place fewer' walk' thinner' (unknown-plain branch_members place Branch d (branch_plain d)))))))

branches_from-keeps : (read : Data → Place → Reading TreeElement) → ElementKeeps read → (index : ℕ) (ds : Items) (place : Place) (fewer walk : Walk) → IsThinner fewer walk → Keeps (branches_from read index ds place walk) (branches_from read index (normal_items BranchList ds) place fewer)
unfolding branches_from normal_items item_rule
branches_from-keeps read keeps index no_items place fewer walk thinner = (refl, thinner)
branches_from-keeps read keeps index (item d ds) place fewer walk thinner =
    keeps_then (branch_in read d (at_item place index) walk) (branch_in read (normal_as Branch d) (at_item place index) fewer) _ _ (branch_in-keeps read keeps d (at_item place index) fewer walk thinner)
    (λ first fewer' walk' thinner'.
    keeps_then (branches_from read (suc index) ds place walk') (branches_from read (suc index) (normal_items BranchList ds) place fewer') _ _ (branches_from-keeps read keeps (suc index) ds place fewer' walk' thinner')
    (λ rest fewer'' walk'' thinner''. (refl, thinner'')))

branches-count : (ds : Items) → items_count (normal_items BranchList ds) ≡ items_count ds
unfolding normal_items item_rule
branches-count no_items = refl
branches-count (item d ds) = ap suc (branches-count ds)

branches_in-keeps : (read : Data → Place → Reading TreeElement) → ElementKeeps read → (d : Data) (place : Place) (fewer walk : Walk) → IsThinner fewer walk → Keeps (branches_in read d place walk) (branches_in read (normal_as BranchList d) place fewer)
unfolding branches_in normal_as
branches_in-keeps read keeps null place fewer walk thinner = tt {0}
branches_in-keeps read keeps (boolean b) place fewer walk thinner = tt {0}
branches_in-keeps read keeps (number n) place fewer walk thinner = tt {0}
branches_in-keeps read keeps (string s) place fewer walk thinner = tt {0}
branches_in-keeps read keeps (array ds) place fewer walk thinner =
    subst (λ count. Keeps (branches_of read (Some ds) place walk) (if is_branch_count count then branches_from read 0 (normal_items BranchList ds) place fewer else bad kinds.BranchCount place)) (sym (branches-count ds))
    (keeps_if (is_branch_count (items_count ds)) (branches_from read 0 ds place walk) (bad kinds.BranchCount place) _ _ (λ _. branches_from-keeps read keeps 0 ds place fewer walk thinner) (λ _. tt {0}))
branches_in-keeps read keeps (object ms) place fewer walk thinner = tt {0}

or_by-keeps : (read : Data → Place → Reading TreeElement) → ElementKeeps read → OrKeeps (or_by read)
unfolding or_by member_rule
or_by-keeps read keeps d place fewer walk thinner =
    needed-keeps _ _ (normal_as BranchList) (codes "branches") d (normal_as (Element (Some Or)) d) place
    (get-inner (Element (Some Or)) d (codes "branches") (element-plain (Some Or) d) BranchList refl) (λ e at. branches_in-keeps read keeps e at fewer walk thinner)

or_at-keeps : (levels : ℕ) → OrKeeps (or_at levels)
unfolding or_at
or_at-keeps zero d place fewer walk thinner = tt {0}
or_at-keeps (suc levels) d place fewer walk thinner = or_by-keeps (element_by (or_at levels)) (element_by-keeps (or_at levels) (or_at-keeps levels)) d place fewer walk thinner

pub element_at-keeps : (levels : ℕ) → ElementKeeps (element_at levels)
element_at-keeps levels = element_by-keeps (or_at levels) (or_at-keeps levels)

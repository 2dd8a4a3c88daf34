-- Each element of what is read is sound: an OR has 2 to 64 branches, PCR values rise, and fields are within bounds.
use Rattle.std.proofs.Common.{◌≡◌, ℕ, zero, suc, ◌+◌, ◌-◌, ◌==◌, ◌&&◌, Bool, true, false, nat_le, codes, List, Option, Some, None, Ok, refl, sym, ap, subst, arith}
use Rattle.std.proofs.lemmas.Bool.{leb-true}
use Rattle.serde_json.specs.Data.{Data, Items, no_items, item}
use Rattle.serde_json.specs.Find.{get, as_array}
use Rattle.tpol_json.specs.Members.{items_count}
use Rattle.tpol_json.specs.declared.place.Place.{Place}
use Rattle.tpol_json.specs.Places.{root, at_member, at_item}
use Rattle.tpol_json.proofs.AllFound.{AllFound, all_after, all_then, all_map, all_if}
use Rattle.tpol_read.proofs.Leaves.{IsSound, LeavesLeaf, leaf_row-leaf}
use Rattle.tpol_read.specs.Approvals.{approvals_member}
use Rattle.tpol_read.specs.Documents.{start, document_in, policy_of}
use Rattle.tpol_read.specs.Elements.{element_type_in, leaf_element, element_of_type, element_by, counted, elements_from, elements_of, elements_in, policy_member, description_member, name_member, branch_in, branches_from, is_branch_count, branches_of, branches_in, or_by, or_at, element_at, max_levels}
use Rattle.tpol_read.specs.RisingPcrs.{HasRisingPcrs}
use Rattle.tpol_elements.specs.declared.types.ElementType.{ElementType}
use Rattle.tpol_elements.specs.declared.types.ElementType.TheVariants as types
use Rattle.tpol_elements.specs.declared.types.LeafType.{LeafType}
use Rattle.tpol_members.specs.declared.walk.Walk.{Walk}
use Rattle.tpol_members.specs.Members.{object_in, read_needed}
use Rattle.tpol_elements.specs.Rows.{leaf_row}
use Rattle.tpol_members.specs.Walks.{Reading}
use Rattle.tpol_tree.proofs.EachElement.{EachElement-map}
use Rattle.tpol_tree.specs.Bounds.{ElementHasBounds}
use Rattle.tpol_tree.specs.Elements.{EachElement, EachElementWithin, EachElementOfBranches, HasBranchCounts, IsBranchCount, branch_count}
use Rattle.tpol_tree.specs.Erased.{erased_element, erased_elements, erased_branches}
use Rattle.tpol_tree.specs.declared.policy.Branch.{Branch}
use Rattle.tpol_tree.specs.declared.policy.Branches.{Branches}
use Rattle.tpol_tree.specs.declared.policy.Branches.TheVariants as branches
use Rattle.tpol_tree.specs.declared.policy.Element.{Element}
use Rattle.tpol_tree.specs.declared.policy.Element.TheVariants.{Or, Pcr, Nv, Secret, Signed, Authorize, AuthorizeNv, Locality, CommandCode, CpHash, NameHash, CounterTimer, Duplication, NvWritten, AuthValue, Password, PhysicalPresence}
use Rattle.tpol_tree.specs.declared.policy.Elements.{Elements}
use Rattle.tpol_tree.specs.declared.policy.Elements.TheVariants as elements
use Rattle.tpol_tree.specs.declared.policy.Policy.{Policy}
use Rattle.tpol_tree.specs.declared.wishes.ApprovalWish.{ApprovalWish}

branch_count-erased : (bs : Branches) → branch_count (erased_branches bs) ≡ branch_count bs
branch_count-erased branches.End = refl
branch_count-erased (branches.More' p name description es q rest) = ap (λ n. n + 1) (branch_count-erased rest)

-- wherever a policy lies
mutual
  elements-lying : (es : Elements) → EachElement IsSound (erased_elements es) → EachElement IsSound es
  elements-lying elements.End is = tt {0}
  elements-lying (elements.More' p e q rest) is = (element-lying e is.0, elements-lying rest is.1)

  element-lying : (e : Element) → EachElementWithin IsSound (erased_element e) → EachElementWithin IsSound e
  element-lying (Or bs) is = ((subst IsBranchCount (branch_count-erased bs) is.0.0, tt {0}, tt {0}), branches-lying bs is.1)
  element-lying (Pcr wish) is = is
  element-lying (Nv index operand offset operation) is = is
  element-lying (Secret entity policy_ref cp_hash expiration) is = is
  element-lying (Signed key policy_ref cp_hash expiration) is = is
  element-lying (Authorize key policy_ref) is = is
  element-lying (AuthorizeNv index) is = is
  element-lying (Locality localities) is = is
  element-lying (CommandCode code) is = is
  element-lying (CpHash digest) is = is
  element-lying (NameHash wish) is = is
  element-lying (CounterTimer operand offset operation) is = is
  element-lying (Duplication object parent include) is = is
  element-lying (NvWritten written) is = is
  element-lying AuthValue is = is
  element-lying Password is = is
  element-lying PhysicalPresence is = is

  branches-lying : (bs : Branches) → EachElementOfBranches IsSound (erased_branches bs) → EachElementOfBranches IsSound bs
  branches-lying branches.End is = tt {0}
  branches-lying (branches.More' p name description es q rest) is = (elements-lying es is.0, branches-lying rest is.1)

-- what an element, a list of elements, a branch, a list of so many branches and an OR are to be, each with a walk
abbrev pub ElementIsSo : Element × Walk → Type 0
ElementIsSo found = EachElementWithin IsSound found.0

abbrev pub ElementsAreSo : Elements × Walk → Type 0
ElementsAreSo found = EachElement IsSound found.0

abbrev pub BranchIsSo : Branch × Walk → Type 0
BranchIsSo found = EachElement IsSound found.0.elements

abbrev pub BranchesAreSo : ℕ → Branches × Walk → Type 0
BranchesAreSo count found = (branch_count found.0 ≡ count) × EachElementOfBranches IsSound found.0

abbrev pub OrIsSo : Branches × Walk → Type 0
OrIsSo found = IsBranchCount (branch_count found.0) × EachElementOfBranches IsSound found.0

-- a reading that finds only such elements
abbrev pub ReadsSo : (Data → Place → Reading Element) → Type 0
ReadsSo read = (d : Data) (place : Place) (walk : Walk) → AllFound ElementIsSo (read d place walk)

counted-so : (read : Data → Place → Reading Element) → ReadsSo read → ReadsSo (counted read)
unfolding counted
counted-so read so d place walk = all_if ElementIsSo (walk.left == 0) _ _ (λ _. tt {0}) (so d place (record walk { left = walk.left - 1 }))

elements_from-so : (read : Data → Place → Reading Element) → ReadsSo read → (index : ℕ) (ds : Items) (place : Place) (walk : Walk) → AllFound ElementsAreSo (elements_from read index ds place walk)
unfolding elements_from
elements_from-so read so index no_items place walk = tt {0}
elements_from-so read so index (item d ds) place walk =
    all_then ElementIsSo ElementsAreSo (counted read d (at_item place index) walk) _ (counted-so read so d (at_item place index) walk)
    (λ first is. all_then ElementsAreSo ElementsAreSo (elements_from read (suc index) ds place first.1) _ (elements_from-so read so (suc index) ds place first.1) (λ rest are. (is, are)))

elements_of-so : (read : Data → Place → Reading Element) → ReadsSo read → (items : Option Items) (place : Place) (walk : Walk) → AllFound ElementsAreSo (elements_of read items place walk)
elements_of-so read so None place walk = tt {0}
elements_of-so read so (Some no_items) place walk = tt {0}
elements_of-so read so (Some (item d ds)) place walk = elements_from-so read so 0 (item d ds) place walk

policy-so : (read : Data → Place → Reading Element) → ReadsSo read → (list : Option Data) (place : Place) (walk : Walk) → AllFound ElementsAreSo (read_needed (λ e p. elements_in read e p walk) list place)
unfolding elements_in
policy-so read so None place walk = tt {0}
policy-so read so (Some d) place walk = elements_of-so read so (as_array d) place walk

branch_in-so : (read : Data → Place → Reading Element) → ReadsSo read → (d : Data) (place : Place) (walk : Walk) → AllFound BranchIsSo (branch_in read d place walk)
unfolding branch_in policy_member
branch_in-so read so d place walk =
    all_after BranchIsSo (object_in d place) _
    (λ _. all_after BranchIsSo (name_member d place) _
    (λ _. all_after BranchIsSo (description_member d place) _
    (λ _. all_then ElementsAreSo BranchIsSo (read_needed (λ e p. elements_in read e p walk) (get (codes "policy") d) (at_member place (codes "policy"))) _
    (policy-so read so (get (codes "policy") d) (at_member place (codes "policy")) walk) (λ found are. are))))

branches_from-so : (read : Data → Place → Reading Element) → ReadsSo read → (index : ℕ) (ds : Items) (place : Place) (walk : Walk) → AllFound (BranchesAreSo (items_count ds)) (branches_from read index ds place walk)
unfolding branches_from
branches_from-so read so index no_items place walk = (refl, tt {0})
branches_from-so read so index (item d ds) place walk =
    all_then BranchIsSo (BranchesAreSo (suc (items_count ds))) (branch_in read d (at_item place index) walk) _ (branch_in-so read so d (at_item place index) walk)
    (λ first is. all_then (BranchesAreSo (items_count ds)) (BranchesAreSo (suc (items_count ds))) (branches_from read (suc index) ds place first.1) _ (branches_from-so read so (suc index) ds place first.1)
    (λ rest are. (let same : branch_count rest.0 ≡ items_count ds = are.0 in omega arith, (is, are.1))))

first_test : (x y : Bool) → (x && y) ≡ true → x ≡ true
first_test true y both = refl
first_test false y both = both

second_test : (x y : Bool) → (x && y) ≡ true → y ≡ true
second_test true y both = both
second_test false y both = cc

within : (count : ℕ) → is_branch_count count ≡ true → IsBranchCount count
within count test = (leb-true 2 count (first_test (nat_le 2 count) (nat_le count 64) test), leb-true count 64 (second_test (nat_le 2 count) (nat_le count 64) test))

branches_of-so : (read : Data → Place → Reading Element) → ReadsSo read → (items : Option Items) (place : Place) (walk : Walk) → AllFound OrIsSo (branches_of read items place walk)
branches_of-so read so None place walk = tt {0}
branches_of-so read so (Some ds) place walk =
    all_if OrIsSo (is_branch_count (items_count ds)) (branches_from read 0 ds place walk) _
    (λ test. all_map (BranchesAreSo (items_count ds)) OrIsSo (branches_from read 0 ds place walk) (branches_from-so read so 0 ds place walk) (λ found are. (subst IsBranchCount (sym are.0) (within (items_count ds) test), are.1)))
    (tt {0})

branches-so : (read : Data → Place → Reading Element) → ReadsSo read → (list : Option Data) (place : Place) (walk : Walk) → AllFound OrIsSo (read_needed (λ e p. branches_in read e p walk) list place)
unfolding branches_in
branches-so read so None place walk = tt {0}
branches-so read so (Some d) place walk = branches_of-so read so (as_array d) place walk

leaf_element-so : (leaf : LeafType) (d : Data) (place : Place) (walk : Walk) → AllFound ElementIsSo (leaf_element leaf d place walk)
unfolding leaf_element
leaf_element-so leaf d place walk =
    all_then LeavesLeaf ElementIsSo (leaf_row leaf d place walk) _ (leaf_row-leaf leaf d place walk) (λ found is. is.1)

element_of_type-so : (or : Data → Place → Reading Branches) → ((d : Data) (place : Place) (walk : Walk) → AllFound OrIsSo (or d place walk)) → (type : ElementType) → ReadsSo (element_of_type or type)
unfolding element_of_type
element_of_type-so or so types.Or d place walk = all_then OrIsSo ElementIsSo (or d place walk) _ (so d place walk) (λ found is. ((is.0, tt {0}, tt {0}), is.1))
element_of_type-so or so (types.Leaf leaf) d place walk = leaf_element-so leaf d place walk
element_of_type-so or so types.Unsupported d place walk = tt {0}

element_by-so : (or : Data → Place → Reading Branches) → ((d : Data) (place : Place) (walk : Walk) → AllFound OrIsSo (or d place walk)) → ReadsSo (element_by or)
unfolding element_by
element_by-so or so d place walk = all_after ElementIsSo (element_type_in d place) _ (λ type. element_of_type-so or so type d place walk)

or_at-so : (levels : ℕ) (d : Data) (place : Place) (walk : Walk) → AllFound OrIsSo (or_at levels d place walk)
unfolding or_at or_by
or_at-so zero d place walk = tt {0}
or_at-so (suc levels) d place walk =
    branches-so (element_by (or_at levels)) (element_by-so (or_at levels) (or_at-so levels)) (get (codes "branches") d) (at_member place (codes "branches")) walk

abbrev pub PolicyIsSo : Policy × Walk → Type 0
PolicyIsSo found = EachElement IsSound found.0.elements

document_in-so : (d : Data) (place : Place) (walk : Walk) → AllFound PolicyIsSo (document_in d place walk)
unfolding document_in policy_member
document_in-so d place walk =
    all_after PolicyIsSo (object_in d place) _
    (λ _. all_after PolicyIsSo (description_member d place) _
    (λ _. all_then ElementsAreSo PolicyIsSo (read_needed (λ e p. elements_in (element_at max_levels) e p walk) (get (codes "policy") d) (at_member place (codes "policy"))) _
    (policy-so (element_at max_levels) (element_by-so (or_at max_levels) (or_at-so max_levels)) (get (codes "policy") d) (at_member place (codes "policy")) walk)
    (λ found are. all_after PolicyIsSo (approvals_member d place found.1) _ (λ _. are))))

-- the elements that a document says, wherever they lie
pub elements-so : (d : Data) (place : Place) (walk after : Walk) (es : Elements) (description : List ℕ) (approvals : List ApprovalWish) → document_in d place walk ≡ Ok (record { description = description; elements = erased_elements es; approvals = approvals }, after) → EachElement IsSound es
elements-so d place walk after es description approvals says = elements-lying es (subst (AllFound PolicyIsSo) says (document_in-so d place walk))

-- the same of a policy with the notes on it
pub policy_of-so : (d : Data) (found : Policy × List Place) → policy_of d ≡ Ok found → EachElement IsSound found.0.elements
unfolding policy_of
policy_of-so d found says =
    subst (AllFound (λ (f : Policy × List Place). EachElement IsSound f.0.elements)) says
    (all_then PolicyIsSo (λ (f : Policy × List Place). EachElement IsSound f.0.elements) (document_in d root start) _ (document_in-so d root start) (λ found is. is))

-- its three facts
pub has_branch_counts : (es : Elements) → EachElement IsSound es → HasBranchCounts es
has_branch_counts = EachElement-map (λ element is. is.0)

pub has_rising_pcrs : (es : Elements) → EachElement IsSound es → HasRisingPcrs es
has_rising_pcrs = EachElement-map (λ element is. is.1)

pub has_bounds : (es : Elements) → EachElement IsSound es → EachElement ElementHasBounds es
has_bounds = EachElement-map (λ element is. is.2)

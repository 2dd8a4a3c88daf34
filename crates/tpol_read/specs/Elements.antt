-- Elements, ORs and lists of elements, in reading order. Boxes lie nowhere.
use Rattle.std.specs.Prelude.{ℕ, zero, suc, ◌-◌, ◌==◌, Bool, ◌&&◌, nat_le, List, [], ◌∷◌, codes, Option, Some, None, Ok, if◌then◌else◌}
use Rattle.serde_json.specs.Data.{Data, Items, no_items, item}
use Rattle.serde_json.specs.Find.{as_array}
use Rattle.tpol_json.specs.declared.place.Place.{Place}
use Rattle.tpol_json.specs.Places.{at_member, at_item}
use Rattle.tpol_members.specs.declared.fault.PolicyKind.TheVariants as kinds
use Rattle.tpol_elements.specs.declared.types.ElementType.{ElementType}
use Rattle.tpol_elements.specs.declared.types.ElementType.TheVariants as types
use Rattle.tpol_elements.specs.declared.types.LeafType.{LeafType}
use Rattle.tpol_members.specs.Values.{text_in}
use Rattle.tpol_base.specs.Answers.{◌>>=◌}
use Rattle.tpol_members.specs.Faults.{Found}
use Rattle.tpol_json.specs.Reading.{bad}
use Rattle.tpol_json.specs.Members.{optional, items_count}
use Rattle.tpol_members.specs.Members.{object_in, needed, noted}
use Rattle.tpol_elements.specs.Rows.{leaf_row}
use Rattle.tpol_elements.specs.Types.{type_in, leaf_members}
use Rattle.tpol_members.specs.Walks.{Reading}
use Rattle.tpol_tree.specs.Erased.{nowhere}
use Rattle.tpol_tree.specs.declared.policy.Branch.{Branch}
use Rattle.tpol_tree.specs.declared.policy.Branches.{Branches}
use Rattle.tpol_tree.specs.declared.policy.Branches.TheVariants as branches
use Rattle.tpol_tree.specs.declared.policy.Element.{Element}
use Rattle.tpol_tree.specs.declared.policy.Element.TheVariants.{Or}
use Rattle.tpol_tree.specs.declared.policy.Elements.{Elements}
use Rattle.tpol_tree.specs.declared.policy.Elements.TheVariants as elements

-- an element is an object with a type
unfoldable pub element_type_in : Data → Place → Found ElementType
element_type_in d place = object_in d place >>= λ _. needed type_in (codes "type") d place

-- an element that holds no other elements: its row, and then its unknown members are noted
unfoldable pub leaf_element : LeafType → Data → Place → Reading Element
leaf_element leaf d place walk = do
  found ← leaf_row leaf d place walk
  Ok (found.0, noted (leaf_members leaf) d place found.1)

-- an element of this type, where the branches of ORs are read so
unfoldable pub element_of_type : (Data → Place → Reading Branches) → ElementType → Data → Place → Reading Element
element_of_type or types.Or d place walk = do
  found ← or d place walk
  Ok (Or found.0, noted (codes "type" ∷ codes "branches" ∷ []) d place found.1)
element_of_type or (types.Leaf leaf) d place walk = leaf_element leaf d place walk
element_of_type or types.Unsupported d place walk = bad kinds.Unsupported (at_member place (codes "type"))

-- an element: its type, and then what its row says
unfoldable pub element_by : (Data → Place → Reading Branches) → Data → Place → Reading Element
element_by or d place walk = element_type_in d place >>= λ type. element_of_type or type d place walk

-- an element is counted before anything of it is read
unfoldable pub counted : (Data → Place → Reading Element) → Data → Place → Reading Element
counted read d place walk =
    if walk.left == 0 then bad kinds.TooMany place else read d place (record walk { left = walk.left - 1 })

-- the elements of a list from this index on
unfoldable pub elements_from : (Data → Place → Reading Element) → ℕ → Items → Place → Reading Elements
elements_from read index no_items place walk = Ok (elements.End, walk)
elements_from read index (item d ds) place walk = do
  first ← counted read d (at_item place index) walk
  rest ← elements_from read (suc index) ds place first.1
  Ok (elements.More' nowhere first.0 nowhere rest.0, rest.1)

abbrev pub elements_of : (Data → Place → Reading Element) → Option Items → Place → Reading Elements
elements_of read None place walk = bad kinds.WrongKind place
elements_of read (Some no_items) place walk = bad kinds.EmptyPolicy place
elements_of read (Some (item d ds)) place walk = elements_from read 0 (item d ds) place walk

-- a list of at least one element
unfoldable pub elements_in : (Data → Place → Reading Element) → Data → Place → Reading Elements
elements_in read d place walk = elements_of read (as_array d) place walk

-- `policy`
unfoldable pub policy_member : (Data → Place → Reading Element) → Data → Place → Reading Elements
policy_member read d place walk = needed (λ e p. elements_in read e p walk) (codes "policy") d place

-- `description`, without it empty
unfoldable pub description_member : Data → Place → Found (List ℕ)
description_member = optional text_in [] (codes "description")

-- `name`, without it empty
unfoldable pub name_member : Data → Place → Found (List ℕ)
name_member = optional text_in [] (codes "name")

-- a branch: `name`, `description` and `policy`
unfoldable pub branch_in : (Data → Place → Reading Element) → Data → Place → Reading Branch
branch_in read d place walk = do
  is_object ← object_in d place
  name ← name_member d place
  description ← description_member d place
  found ← policy_member read d place walk
  Ok (
    record { name = name; description = description; elements = found.0 },
    noted (codes "name" ∷ codes "description" ∷ codes "policy" ∷ []) d place found.1,
  )

-- the branches of a list from this index on
unfoldable pub branches_from : (Data → Place → Reading Element) → ℕ → Items → Place → Reading Branches
branches_from read index no_items place walk = Ok (branches.End, walk)
branches_from read index (item d ds) place walk = do
  first ← branch_in read d (at_item place index) walk
  rest ← branches_from read (suc index) ds place first.1
  Ok (branches.More' nowhere first.0.name first.0.description first.0.elements nowhere rest.0, rest.1)

-- 2 to 64
abbrev pub is_branch_count : ℕ → Bool
is_branch_count count = nat_le 2 count && nat_le count 64

abbrev pub branches_of : (Data → Place → Reading Element) → Option Items → Place → Reading Branches
branches_of read None place walk = bad kinds.WrongKind place
branches_of read (Some ds) place walk =
    if is_branch_count (items_count ds) then branches_from read 0 ds place walk else bad kinds.BranchCount place

-- a list of 2 to 64 branches
unfoldable pub branches_in : (Data → Place → Reading Element) → Data → Place → Reading Branches
branches_in read d place walk = branches_of read (as_array d) place walk

-- `branches`, where the elements in them are read so
unfoldable pub or_by : (Data → Place → Reading Element) → Data → Place → Reading Branches
or_by read d place walk = needed (λ e p. branches_in read e p walk) (codes "branches") d place

-- the branches of an OR, where so many ORs may stand inside one another from it on
unfoldable pub or_at : ℕ → Data → Place → Reading Branches
or_at zero d place walk = bad kinds.TooDeep place
or_at (suc levels) d place walk = or_by (element_by (or_at levels)) d place walk

-- an element, where so many ORs may stand inside one another from it on
abbrev pub element_at : ℕ → Data → Place → Reading Element
element_at levels = element_by (or_at levels)

-- how many ORs may stand inside one another
abbrev pub max_levels : ℕ
max_levels = 16

-- Policy documents: what one says, and all faults in it.
use Rattle.std.specs.Prelude.{◌≡◌, ℕ, zero, suc, ◌+◌, ◌-◌, ◌++◌, List, [], ◌∷◌, codes, Option, Some, None, option_and_then, unwrap_or, Ok, Err, ⊤}
use Rattle.serde_json.specs.Data.{Data, Items, no_items, item}
use Rattle.serde_json.specs.Find.{get, as_array}
use Rattle.tpol_json.specs.Document.{document_of}
use Rattle.tpol_json.specs.declared.place.Place.{Place}
use Rattle.tpol_json.specs.Places.{root, at_member, at_item}
use Rattle.tpol_read.specs.Approvals.{approvals_member, counted_approval}
use Rattle.tpol_read.specs.Elements.{element_type_in, element_at, max_levels, counted, policy_member, description_member}
use Rattle.tpol_members.specs.declared.fault.PolicyFault.{PolicyFault}
use Rattle.tpol_members.specs.declared.fault.PolicyFault.TheVariants.{NotJson, Bad, NoMemory}
use Rattle.tpol_members.specs.declared.fault.PolicyKind.TheVariants as kinds
use Rattle.tpol_elements.specs.declared.types.ElementType.{ElementType}
use Rattle.tpol_elements.specs.declared.types.ElementType.TheVariants.{Or, Leaf, Unsupported}
use Rattle.tpol_members.specs.declared.walk.Walk.{Walk}
use Rattle.tpol_base.specs.Answers.{◌>>=◌}
use Rattle.tpol_members.specs.Faults.{Fault, Found}
use Rattle.tpol_members.specs.Members.{object_in, noted}
use Rattle.tpol_members.specs.Walks.{Reading, still}
use Rattle.tpol_tree.specs.declared.policy.Policy.{Policy}

-- before anything is read: no note, and 1,024 elements may come
abbrev pub start : Walk
start = record { notes = []; left = 1024 }

-- a document: `description`, `policy` and `policyAuthorizations`
unfoldable pub document_in : Data → Place → Reading Policy
document_in d place walk = do
  is_object ← object_in d place
  description ← description_member d place
  elements ← policy_member (element_at max_levels) d place walk
  approvals ← approvals_member d place elements.1
  Ok (
    record { description = description; elements = elements.0; approvals = approvals.0 },
    noted (codes "description" ∷ codes "policy" ∷ codes "policyDigests" ∷ codes "policyAuthorizations" ∷ []) d place approvals.1,
  )

-- what a whole document says, with the notes on it
unfoldable pub policy_of : Data → Found (Policy × List Place)
policy_of d = document_in d root start >>= λ found. Ok (found.0, found.1.notes)

-- the counts of a list's items together, each counted so
abbrev pub list_count : (Data → ℕ) → Items → ℕ
list_count count no_items = 0
list_count count (item d ds) = count d + list_count count ds

-- the items of a member that is a list, and else none
abbrev pub member_items : List ℕ → Data → Items
member_items name d = unwrap_or (option_and_then as_array (get name d)) no_items

-- the elements in a branch
abbrev pub branch_count : (Data → ℕ) → Data → ℕ
branch_count count d = list_count count (member_items (codes "policy") d)

-- the elements in an element of this type
abbrev pub inner_count : (Data → ℕ) → Found ElementType → Data → ℕ
inner_count count (Ok Or) d = list_count (branch_count count) (member_items (codes "branches") d)
inner_count count (Ok (Leaf leaf)) d = 0
inner_count count (Ok Unsupported) d = 0
inner_count count (Err fault) d = 0

-- how many elements an element is: itself and those in it, where so many ORs may stand inside one another
unfoldable pub element_count : ℕ → Data → ℕ
element_count zero d = 1
element_count (suc levels) d = 1 + inner_count (element_count levels) (element_type_in d root) d

-- faults in reading order, and the walk behind what has them
abbrev pub Faults : Type 0
Faults = List Fault × Walk

-- a reading's fault, if it has one, and the walk behind it, which is this one where there is a fault
abbrev pub fault_of : {A : Type 0} → Found (A × Walk) → Walk → Faults
fault_of (Ok found) walk = ([], found.1)
fault_of (Err fault) walk = (fault ∷ [], walk)

-- these faults, and then those of what comes next
abbrev pub with_more : Faults → (Walk → Faults) → Faults
with_more faults more = (faults.0 ++ (more faults.1).0, (more faults.1).1)

-- Each element of a list, from this index on, has its first fault. Behind a fault go as many elements as the
-- element is, so each that is past the last that may come is TooMany.
unfoldable pub element_faults : ℕ → Items → Place → Walk → Faults
element_faults index no_items place walk = ([], walk)
element_faults index (item d ds) place walk =
    with_more
    (fault_of (counted (element_at max_levels) d (at_item place index) walk) (record walk { left = walk.left - element_count max_levels d }))
    (element_faults (suc index) ds place)

abbrev pub elements_faults : Option Items → Place → Walk → Faults
elements_faults None place walk = ((kinds.WrongKind, place) ∷ [], walk)
elements_faults (Some no_items) place walk = ((kinds.EmptyPolicy, place) ∷ [], walk)
elements_faults (Some (item d ds)) place walk = element_faults 0 (item d ds) place walk

-- the faults of `policy`
abbrev pub policy_member_faults : Option Data → Place → Walk → Faults
policy_member_faults None place walk = ((kinds.Missing, place) ∷ [], walk)
policy_member_faults (Some d) place walk = elements_faults (as_array d) place walk

-- each authorization of a list, from this index on, has its first fault
unfoldable pub approval_faults : ℕ → Items → Place → Walk → Faults
approval_faults index no_items place walk = ([], walk)
approval_faults index (item d ds) place walk =
    with_more (fault_of (counted_approval index d (at_item place index) walk) walk) (approval_faults (suc index) ds place)

abbrev pub approvals_faults : Option Items → Place → Walk → Faults
approvals_faults None place walk = ((kinds.WrongKind, place) ∷ [], walk)
approvals_faults (Some ds) place walk = approval_faults 0 ds place walk

-- the faults of `policyAuthorizations`
abbrev pub approvals_member_faults : Option Data → Place → Walk → Faults
approvals_member_faults None place walk = ([], walk)
approvals_member_faults (Some d) place walk = approvals_faults (as_array d) place walk

-- the faults of a document's members
unfoldable pub member_faults : Data → Place → Walk → Faults
member_faults d place walk =
    with_more (fault_of (still (description_member d place) walk) walk) (λ before.
    with_more (policy_member_faults (get (codes "policy") d) (at_member place (codes "policy")) before)
    (approvals_member_faults (get (codes "policyAuthorizations") d) (at_member place (codes "policyAuthorizations"))))

-- what is no object has this one fault
abbrev pub faults_unless : Found ⊤ → List Fault → List Fault
faults_unless (Ok is_object) faults = faults
faults_unless (Err fault) faults = fault ∷ []

-- the faults of a document in reading order: of each element of its list and of each authorization the first
unfoldable pub policy_faults : Data → List Fault
policy_faults d = faults_unless (object_in d root) (member_faults d root start).0

-- the first of these faults
abbrev pub first_of : List Fault → Option Fault
first_of [] = None
first_of (fault ∷ faults) = Some fault

-- a document has no fault, and says this policy, with these notes
abbrev pub StandsForPolicy : Data → Policy → List Place → Type 0
StandsForPolicy d policy notes = (policy_faults d ≡ []) × (policy_of d ≡ Ok (policy, notes))

-- bytes are the text of a document that stands for this policy, with these notes
abbrev pub ReadsAsPolicy : List ℕ → Policy → List Place → Type 0
ReadsAsPolicy bytes policy notes = (d : Data) × (document_of bytes ≡ Some d) × StandsForPolicy d policy notes

-- bytes are refused with this fault: they are no JSON text, or it is the first of their document
abbrev pub IsRefused : List ℕ → PolicyFault → Type 0
IsRefused bytes NotJson = document_of bytes ≡ None
IsRefused bytes (Bad kind place) =
    (d : Data) × (document_of bytes ≡ Some d) × (first_of (policy_faults d) ≡ Some (kind, place))
IsRefused bytes NoMemory = ⊤

-- The documents that are approved: each with who approves it, the policy that it is when it is filled, and that
-- policy's digest.
use Rattle.std.specs.Prelude.{ℕ, List, [], ◌∷◌, Option, Some, None}
use Rattle.std.specs.List.{flat_map}
use Rattle.std.specs.Option.{option_map}
use Rattle.std.specs.Result.{result_ok}
use Rattle.tpol_digest.specs.Digest.{policy_digest}
use Rattle.tpol_fill.specs.Entities.{key_name, name_of_index_wish}
use Rattle.tpol_fill.specs.Filling.{fill_faults, filled}
use Rattle.tpol_fill.specs.Outcome.{Fault}
use Rattle.tpol_name.specs.declared.sight.Sight.{Sight}
use Rattle.tpol_store.specs.Stores.{NamedPolicy}
use Rattle.tpol_tree.specs.Bounds.{HasClosedBounds}
use Rattle.tpol_tree.specs.declared.closed.Closed.{Closed}
use Rattle.tpol_tree.specs.declared.path.ApprovedBy.{ApprovedBy}
use Rattle.tpol_tree.specs.declared.path.ApprovedBy.TheVariants.{Key, Index}
use Rattle.tpol_tree.specs.declared.path.ApprovedDoc.{ApprovedDoc}
use Rattle.tpol_tree.specs.declared.policy.Policy.{Policy}
use Rattle.tpol_tree.specs.declared.wishes.ApprovalWish.{ApprovalWish}
use Rattle.tpol_tree.specs.declared.wishes.ApprovalWish.TheVariants.{ByKey, ByIndex}

-- who approves, if the key or the index has a value
abbrev pub approver : ApprovalWish → Option Sight → Option ApprovedBy
approver (ByKey key policy_ref signature) sight =
    option_map (λ name. Key name policy_ref signature) (result_ok (key_name key sight))
approver (ByIndex index) sight = option_map (λ name. Index name) (result_ok (name_of_index_wish index sight))

-- a document of this name and policy, approved so
abbrev pub approved_document : List ℕ → Closed → ApprovedBy → ApprovedDoc
approved_document name closed by = record {
  document = name;
  by = by;
  closed = closed;
  digest = policy_digest closed;
}

-- none where nobody approves, or the document has a fault
abbrev pub unless_fault : Option ApprovedBy → List Fault → List ℕ → Closed → List ApprovedDoc
unless_fault None faults name closed = []
unless_fault (Some by) [] name closed = approved_document name closed by ∷ []
unless_fault (Some by) (fault ∷ rest) name closed = []

-- what one authorization of a document approves
unfoldable pub approved_by : List ℕ → Policy → Option Sight → ApprovalWish → List ApprovedDoc
approved_by name policy sight wish =
    unless_fault (approver wish sight) (fill_faults policy sight) name (filled policy sight)

-- what the authorizations of a document approve, in its order
abbrev pub approved_in : List ℕ → Policy → Option Sight → List ApprovedDoc
approved_in name policy sight = flat_map (approved_by name policy sight) policy.approvals

-- what is approved, in the order of the documents
abbrev pub approved_documents : List NamedPolicy → Option Sight → List ApprovedDoc
approved_documents documents sight = flat_map (λ document. approved_in document.0 document.1 sight) documents

-- the policy of an approved document is within the bounds of the wire
abbrev pub HasApprovedBounds : ApprovedDoc → Type 0
HasApprovedBounds document = HasClosedBounds document.closed

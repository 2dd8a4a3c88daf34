-- The ways through a policy, in document order: earlier choices vary slowest.
use Rattle.std.specs.Prelude.{◌≡◌, ℕ, zero, suc, ◌+◌, Bool, true, false, ◌||◌, ◌&&◌, if◌then◌else◌, List, [], ◌∷◌, ◌++◌, map, Option, Some, None}
use Rattle.std.specs.List.{flat_map}
use Rattle.std.specs.Str.{bytes_eq}
use Rattle.tpol_base.specs.declared.digest.Digest32.{Digest32}
use Rattle.tpol_base.specs.declared.name.Name.{Name}
use Rattle.tpol_base.specs.Name.{is_same_name}
use Rattle.tpol_tree.specs.declared.closed.Closed.{Closed}
use Rattle.tpol_tree.specs.declared.closed.ClosedElements.{ClosedElements}
use Rattle.tpol_tree.specs.declared.closed.ClosedElements.TheVariants.{More', End}
use Rattle.tpol_tree.specs.declared.closed.ClosedElement.{ClosedElement}
use Rattle.tpol_tree.specs.declared.closed.ClosedElement.TheVariants.{Assert, Or, Authorize, AuthorizeNv}
use Rattle.tpol_tree.specs.declared.closed.ClosedBranches.{ClosedBranches}
use Rattle.tpol_tree.specs.declared.closed.ClosedBranches.TheVariants.{More' as MoreBranches', End as EndBranches}
use Rattle.tpol_tree.specs.declared.path.ApprovedDoc.{ApprovedDoc}
use Rattle.tpol_tree.specs.declared.path.ApprovedBy.{ApprovedBy}
use Rattle.tpol_tree.specs.declared.path.ApprovedBy.TheVariants.{Key, Index}
use Rattle.tpol_tree.specs.declared.path.Move.{Move}
use Rattle.tpol_tree.specs.declared.path.Move.TheVariants.{Assert as AssertMove, Or as OrMove, Approve, ApproveNv}
use Rattle.tpol_tree.specs.declared.path.Path.{Path}
use Rattle.tpol_tree.specs.declared.path.PathStep.{PathStep}
use Rattle.tpol_tree.specs.declared.path.PathStep.TheVariants.{Branch, Document, Outside}
use Rattle.tpol_digest.specs.Digest.{zero_digest, digest_at_element, branch_digests}

-- whether a choice is outside the listed documents
abbrev pub is_outside : PathStep → Bool
is_outside (Branch position name) = false
is_outside (Document name) = false
is_outside Outside = true

-- the path with no choice and no move
abbrev pub empty_path : Path
empty_path = record { steps = []; moves = []; outside = false }

-- one move alone
abbrev pub path_of_move : Move → Path
path_of_move act = record { steps = []; moves = act ∷ []; outside = false }

-- one path and then another
abbrev pub followed_by : Path → Path → Path
followed_by first rest =
    record { steps = first.steps ++ rest.steps; moves = first.moves ++ rest.moves; outside = first.outside || rest.outside }

-- each of the first paths followed by each of the others
abbrev pub product : List Path → List Path → List Path
product firsts rests = flat_map (λ first. map (followed_by first) rests) firsts

-- a path behind a choice and before a move
abbrev pub between : PathStep → Move → Path → Path
between step act path = record { steps = step ∷ path.steps; moves = path.moves ++ act ∷ []; outside = path.outside }

-- the way by a policy that no listed document has
abbrev pub outside_path : Move → Path
outside_path act = record { steps = Outside ∷ []; moves = act ∷ []; outside = true }

-- the same for an AUTHORIZE or an AUTHORIZENV, whose approved digest and signature are then zero
abbrev pub outside_paths : ClosedElement → List Path
outside_paths (Authorize key policy_ref) = outside_path (Approve key policy_ref zero_digest zero_digest) ∷ []
outside_paths (AuthorizeNv index) = outside_path (ApproveNv index zero_digest) ∷ []
outside_paths _ = []

-- the move that uses a document's approval, where it is by this key with this policyRef, or by this index
abbrev pub approval_by_key : Name → List ℕ → Digest32 → ApprovedBy → Option Move
approval_by_key key policy_ref digest (Key by under signature) =
    if is_same_name key by && bytes_eq policy_ref under then Some (Approve key policy_ref digest signature) else None
approval_by_key key policy_ref digest (Index by) = None

abbrev pub approval_by_index : Name → Digest32 → ApprovedBy → Option Move
approval_by_index index digest (Key by under signature) = None
approval_by_index index digest (Index by) = if is_same_name index by then Some (ApproveNv index digest) else None

-- the move that uses a document's approval for an AUTHORIZE or an AUTHORIZENV
abbrev pub approval_of : ClosedElement → ApprovedDoc → Option Move
approval_of (Authorize key policy_ref) document = approval_by_key key policy_ref document.digest document.by
approval_of (AuthorizeNv index) document = approval_by_index index document.digest document.by
approval_of _ document = None

-- a document's paths, each before the move that uses its approval, if there is one
abbrev pub paths_by_approval : Option Move → ApprovedDoc → List Path → List Path
paths_by_approval None document paths = []
paths_by_approval (Some act) document paths = map (between (Document document.document) act) paths

-- the same of all documents, where `within` gives the paths of one
abbrev pub approved_paths : (ApprovedDoc → List Path) → List ApprovedDoc → ClosedElement → List Path
approved_paths within documents element =
    flat_map (λ document. paths_by_approval (approval_of element document) document (within document)) documents

-- the paths of elements, of one element and of branches from a position on, where d is the digest before
abbrev mutual
  pub paths_at : (ApprovedDoc → List Path) → List ApprovedDoc → ClosedElements → Digest32 → List Path
  paths_at within documents End d = empty_path ∷ []
  paths_at within documents (More' p element q rest) d =
      product (paths_at_element within documents element d) (paths_at within documents rest (digest_at_element element d))

  pub paths_at_element : (ApprovedDoc → List Path) → List ApprovedDoc → ClosedElement → Digest32 → List Path
  paths_at_element within documents (Assert assertion) d = path_of_move (AssertMove assertion) ∷ []
  paths_at_element within documents (Or branches) d =
      paths_at_branches within documents branches 1 (OrMove (branch_digests branches d)) d
  paths_at_element within documents (Authorize key policy_ref) d =
      approved_paths within documents (Authorize key policy_ref) ++ outside_paths (Authorize key policy_ref)
  paths_at_element within documents (AuthorizeNv index) d =
      approved_paths within documents (AuthorizeNv index) ++ outside_paths (AuthorizeNv index)

  pub paths_at_branches : (ApprovedDoc → List Path) → List ApprovedDoc → ClosedBranches → ℕ → Move → Digest32 → List Path
  paths_at_branches within documents EndBranches position act d = []
  paths_at_branches within documents (MoreBranches' p name elements q rest) position act d =
      map (between (Branch position name) act) (paths_at within documents elements d) ++ paths_at_branches within documents rest (position + 1) act d

-- the paths of a document with at most so many approvals inside one another, its own included
unfoldable pub document_paths : List ApprovedDoc → ℕ → ApprovedDoc → List Path
document_paths documents zero document = []
document_paths documents (suc levels) document =
    paths_at (document_paths documents levels) documents document.closed.elements zero_digest

-- the paths of a policy, with at most four approvals inside one another
abbrev pub paths_of : Closed → List ApprovedDoc → List Path
paths_of policy documents = paths_at (document_paths documents 4) documents policy.elements zero_digest

-- the move approves 32 zero bytes
abbrev pub ApprovesZero : Move → Type 0
ApprovesZero (Approve key policy_ref approved signature) = approved ≡ zero_digest
ApprovesZero (ApproveNv index approved) = approved ≡ zero_digest
ApprovesZero _ = ⊥

-- there is a first move, and it approves 32 zero bytes
abbrev pub BeginsWithZeroApproval : List Move → Type 0
BeginsWithZeroApproval [] = ⊥
BeginsWithZeroApproval (act ∷ rest) = ApprovesZero act

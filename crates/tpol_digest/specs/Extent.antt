-- How many paths there are, and how many moves the longest has.
use Rattle.std.specs.Prelude.{◌≡◌, ℕ, zero, suc, ◌+◌, ◌*◌, ◌≤◌, min, max, List, [], ◌∷◌, Option, Some, None, is_some, if◌then◌else◌}
use Rattle.tpol_tree.specs.declared.closed.ClosedElements.{ClosedElements}
use Rattle.tpol_tree.specs.declared.closed.ClosedElements.TheVariants.{More', End}
use Rattle.tpol_tree.specs.declared.closed.ClosedElement.{ClosedElement}
use Rattle.tpol_tree.specs.declared.closed.ClosedElement.TheVariants.{Assert, Or, Authorize, AuthorizeNv}
use Rattle.tpol_tree.specs.declared.closed.ClosedBranches.{ClosedBranches}
use Rattle.tpol_tree.specs.declared.closed.ClosedBranches.TheVariants.{More' as MoreBranches', End as EndBranches}
use Rattle.tpol_tree.specs.declared.path.ApprovedDoc.{ApprovedDoc}
use Rattle.tpol_digest.specs.declared.extent.Extent.{Extent}
use Rattle.tpol_digest.specs.Paths.{approval_of}

-- the number of paths and the moves of the longest, without a limit; 0 moves where there is no path
pub record FullExtent : Type 0 where
  pub paths : ℕ
  pub moves : ℕ

-- no path; one path with no move; one path with one move
abbrev pub no_path : FullExtent
no_path = record { paths = 0; moves = 0 }

abbrev pub no_move : FullExtent
no_move = record { paths = 1; moves = 0 }

abbrev pub one_move : FullExtent
one_move = record { paths = 1; moves = 1 }

-- so many moves where there are paths, and 0 where there is none
abbrev pub where_paths : ℕ → ℕ → ℕ
where_paths zero moves = 0
where_paths (suc more) moves = moves

-- of the paths of two parts one after the other
abbrev pub both : FullExtent → FullExtent → FullExtent
both a b = record { paths = a.paths * b.paths; moves = where_paths (a.paths * b.paths) (a.moves + b.moves) }

-- of the paths of either part
abbrev pub either : FullExtent → FullExtent → FullExtent
either a b = record { paths = a.paths + b.paths; moves = max a.moves b.moves }

-- of the same paths with one more move each
abbrev pub longer : FullExtent → FullExtent
longer a = record { paths = a.paths; moves = where_paths a.paths (a.moves + 1) }

-- of the documents that an element's approver approved, where `within` gives a document's own extent
abbrev pub extent_by_approval : Option (ApprovedDoc → FullExtent) → ClosedElement → List ApprovedDoc → FullExtent
extent_by_approval None element documents = no_path
extent_by_approval (Some within) element [] = no_path
extent_by_approval (Some within) element (document ∷ rest) =
    either (if is_some (approval_of element document) then longer (within document) else no_path) (extent_by_approval (Some within) element rest)

-- of elements, of one element and of branches; with no level left no document is entered
abbrev mutual
  pub extent_at : Option (ApprovedDoc → FullExtent) → List ApprovedDoc → ClosedElements → FullExtent
  extent_at within documents End = no_move
  extent_at within documents (More' p element q rest) =
      both (extent_at_element within documents element) (extent_at within documents rest)

  pub extent_at_element : Option (ApprovedDoc → FullExtent) → List ApprovedDoc → ClosedElement → FullExtent
  extent_at_element within documents (Assert assertion) = one_move
  extent_at_element within documents (Or branches) = extent_at_branches within documents branches
  extent_at_element within documents (Authorize key policy_ref) =
      either (extent_by_approval within (Authorize key policy_ref) documents) one_move
  extent_at_element within documents (AuthorizeNv index) =
      either (extent_by_approval within (AuthorizeNv index) documents) one_move

  pub extent_at_branches : Option (ApprovedDoc → FullExtent) → List ApprovedDoc → ClosedBranches → FullExtent
  extent_at_branches within documents EndBranches = no_path
  extent_at_branches within documents (MoreBranches' p name elements q rest) =
      either (longer (extent_at within documents elements)) (extent_at_branches within documents rest)

-- of a document, with so many approvals inside one another
unfoldable pub document_extent : List ApprovedDoc → ℕ → Option (ApprovedDoc → FullExtent)
document_extent documents zero = None
document_extent documents (suc levels) =
    Some (λ document. extent_at (document_extent documents levels) documents document.closed.elements)

-- the paths counted to 65,537, and, where there are no more than 65,536, the moves to 513
pub record IsCapped (extent : Extent) (full : FullExtent) : Type 0 where
  pub paths : extent.paths ≡ min full.paths 65537
  pub moves : full.paths ≤ 65536 → extent.moves ≡ min full.moves 513

-- the extent of elements, of one element and of branches that ask for no approval: whatever documents are approved
abbrev pub IsOwnExtent : ClosedElements → Extent → Type 0
IsOwnExtent elements extent =
    (within : Option (ApprovedDoc → FullExtent)) (documents : List ApprovedDoc) → IsCapped extent (extent_at within documents elements)

abbrev pub IsOwnExtentOfElement : ClosedElement → Extent → Type 0
IsOwnExtentOfElement element extent =
    (within : Option (ApprovedDoc → FullExtent)) (documents : List ApprovedDoc) → IsCapped extent (extent_at_element within documents element)

abbrev pub IsOwnExtentOfBranches : ClosedBranches → Extent → Type 0
IsOwnExtentOfBranches branches extent =
    (within : Option (ApprovedDoc → FullExtent)) (documents : List ApprovedDoc) → IsCapped extent (extent_at_branches within documents branches)

-- One path among those of a part of a policy, by its index.
use Rattle.std.specs.Prelude.{◌≡◌, ℕ, ◌+◌, Bool, true, false, ◌||◌, List, [], ◌∷◌, ◌++◌, map, Some}
use Rattle.std.specs.List.{slice_get}
use Rattle.tpol_base.specs.declared.digest.Digest32.{Digest32}
use Rattle.tpol_tree.specs.declared.closed.ClosedElements.{ClosedElements}
use Rattle.tpol_tree.specs.declared.closed.ClosedElements.TheVariants.{More', End}
use Rattle.tpol_tree.specs.declared.closed.ClosedElement.{ClosedElement}
use Rattle.tpol_tree.specs.declared.closed.ClosedElement.TheVariants.{Or}
use Rattle.tpol_tree.specs.declared.closed.ClosedBranches.{ClosedBranches}
use Rattle.tpol_tree.specs.declared.closed.ClosedBranches.TheVariants.{More' as MoreBranches', End as EndBranches}
use Rattle.tpol_tree.specs.declared.path.ApprovedDoc.{ApprovedDoc}
use Rattle.tpol_tree.specs.declared.path.Path.{Path}
use Rattle.tpol_tree.specs.declared.path.PathStep.{PathStep}
use Rattle.tpol_tree.specs.declared.path.PathStep.TheVariants.{Branch}
use Rattle.tpol_digest.specs.Paths.{followed_by, paths_at, paths_at_element, approved_paths, outside_paths, document_paths}

-- one choice alone
abbrev pub path_of_step : PathStep → Path
path_of_step step = record { steps = step ∷ []; moves = []; outside = false }

-- the ways through elements and through one element, where d is the digest before and documents may be
-- entered so many levels deep
abbrev pub element_list_ways : List ApprovedDoc → ℕ → ClosedElements → Digest32 → List Path
element_list_ways documents levels elements d = paths_at (document_paths documents levels) documents elements d

abbrev pub element_ways : List ApprovedDoc → ℕ → ClosedElement → Digest32 → List Path
element_ways documents levels element d = paths_at_element (document_paths documents levels) documents element d

-- the ways through branches from a position on, without the move of their OR
abbrev pub branch_ways : List ApprovedDoc → ℕ → ClosedBranches → ℕ → Digest32 → List Path
branch_ways documents levels EndBranches position d = []
branch_ways documents levels (MoreBranches' p name elements q rest) position d =
    map (followed_by (path_of_step (Branch position name))) (element_list_ways documents levels elements d) ++ branch_ways documents levels rest (position + 1) d

-- the ways through an element that asks for an approval
abbrev pub approval_ways : List ApprovedDoc → ℕ → ClosedElement → List Path
approval_ways documents levels element = approved_paths (document_paths documents levels) documents element ++ outside_paths element

-- whether an element is an OR, and whether one stands among elements, those of approved documents aside
abbrev pub is_or : ClosedElement → Bool
is_or (Or branches) = true
is_or _ = false

abbrev pub has_or : ClosedElements → Bool
has_or End = false
has_or (More' p element q rest) = is_or element || has_or rest

-- the path goes on by the way at an index, from 0
pub record GoesOn (before : Path) (ways : List Path) (index : ℕ) (after : Path) : Type 0 where
  pub way : Path
  pub is_there : slice_get ways index ≡ Some way
  pub follows : after ≡ followed_by before way

-- PolicyOR takes two to eight digests (TPM 2.0 Part 3, PolicyOR), so an OR of more branches becomes an OR of
-- groups of branches.
use Rattle.std.specs.Prelude.{ℕ, ◌+◌, ◌/◌, List, [], ◌∷◌, ◌++◌, codes, decimal, length, nat_lt, if◌then◌else◌}
use Rattle.std.specs.Simd.{first_chunks}
use Rattle.tpol_tree.specs.ClosedErased.{erased_elements}
use Rattle.tpol_tree.specs.declared.closed.ClosedBranches.{ClosedBranches}
use Rattle.tpol_tree.specs.declared.closed.ClosedBranches.TheVariants.{More' as MoreBranches', End as EndBranches}
use Rattle.tpol_tree.specs.declared.closed.ClosedElement.TheVariants.{Or}
use Rattle.tpol_tree.specs.declared.closed.ClosedElements.{ClosedElements}
use Rattle.tpol_tree.specs.declared.closed.ClosedElements.TheVariants.{More', End}
use Rattle.tpol_tree.specs.Erased.{nowhere}

-- a branch: its name and its elements, in boxes that lie nowhere
abbrev pub NamedBranch : Type 0
NamedBranch = List ℕ × ClosedElements

-- the branches of an OR as a list, and the branches of a list
abbrev pub branches_in : ClosedBranches → List NamedBranch
branches_in EndBranches = []
branches_in (MoreBranches' p name elements q rest) = (name, erased_elements elements) ∷ branches_in rest

abbrev pub branches_of : List NamedBranch → ClosedBranches
branches_of [] = EndBranches
branches_of (branch ∷ rest) = MoreBranches' nowhere branch.0 branch.1 nowhere (branches_of rest)

-- the policy of one OR
abbrev pub or_of : List NamedBranch → ClosedElements
or_of branches = More' nowhere (Or (branches_of branches)) nowhere End

-- the group of this number: one branch is the group itself, more are a branch whose policy is their OR and
-- whose name is `#` and the number
abbrev pub group : ℕ → List NamedBranch → NamedBranch
group number (branch ∷ []) = branch
group number branches = (codes "#" ++ decimal number, or_of branches)

-- groups, numbered in order
abbrev pub numbered : ℕ → List (List NamedBranch) → List NamedBranch
numbered number [] = []
numbered number (branches ∷ rest) = group number branches ∷ numbered (number + 1) rest

-- branches in groups of eight in order, of which the last has one to eight
abbrev pub in_eights : List NamedBranch → List (List NamedBranch)
in_eights branches = first_chunks 8 ((length branches + 7) / 8) branches

-- the branches of the OR that is made of these: up to eight as they are, more in groups that count from 1
abbrev pub grouped : List NamedBranch → List NamedBranch
grouped branches = if nat_lt 8 (length branches) then numbered 1 (in_eights branches) else branches

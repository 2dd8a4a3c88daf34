-- What may hold of policies as they are written.
use Rattle.std.specs.Prelude.{ℕ, ◌+◌, ◌≤◌, ⊤}
use Rattle.tpol_tree.specs.declared.policy.Branches.{Branches}
use Rattle.tpol_tree.specs.declared.policy.Branches.TheVariants.{More' as MoreBranches', End as EndBranches}
use Rattle.tpol_tree.specs.declared.policy.Element.{Element}
use Rattle.tpol_tree.specs.declared.policy.Element.TheVariants.{Or}
use Rattle.tpol_tree.specs.declared.policy.Elements.{Elements}
use Rattle.tpol_tree.specs.declared.policy.Elements.TheVariants.{More', End}

-- P holds of each element, at any depth
abbrev mutual
  pub EachElement : (Element → Type 0) → Elements → Type 0
  EachElement P End = ⊤
  EachElement P (More' p element q rest) = EachElementWithin P element × EachElement P rest

  pub EachElementWithin : (Element → Type 0) → Element → Type 0
  EachElementWithin P (Or branches) = P (Or branches) × EachElementOfBranches P branches
  EachElementWithin P element = P element

  pub EachElementOfBranches : (Element → Type 0) → Branches → Type 0
  EachElementOfBranches P EndBranches = ⊤
  EachElementOfBranches P (MoreBranches' p name description elements q rest) =
      EachElement P elements × EachElementOfBranches P rest

-- how many branches there are
abbrev pub branch_count : Branches → ℕ
branch_count EndBranches = 0
branch_count (MoreBranches' p name description elements q rest) = branch_count rest + 1

-- an OR as it is written has 2 to 64 branches
abbrev pub IsBranchCount : ℕ → Type 0
IsBranchCount n = (2 ≤ n) × (n ≤ 64)

abbrev pub HasBranchCount : Element → Type 0
HasBranchCount (Or branches) = IsBranchCount (branch_count branches)
HasBranchCount _ = ⊤

-- each OR, at any depth, has 2 to 64 branches
abbrev pub HasBranchCounts : Elements → Type 0
HasBranchCounts elements = EachElement HasBranchCount elements

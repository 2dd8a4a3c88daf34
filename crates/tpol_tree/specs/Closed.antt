-- What may hold of closed policies.
use Rattle.std.specs.Prelude.{ℕ, ◌+◌, ◌≤◌, Bool, false, IsTrue, ⊤}
use Rattle.tpol_tree.specs.declared.closed.Assertion.{Assertion}
use Rattle.tpol_tree.specs.declared.closed.ClosedElements.{ClosedElements}
use Rattle.tpol_tree.specs.declared.closed.ClosedElements.TheVariants.{More', End}
use Rattle.tpol_tree.specs.declared.closed.ClosedElement.{ClosedElement}
use Rattle.tpol_tree.specs.declared.closed.ClosedElement.TheVariants.{Assert, Or, Authorize, AuthorizeNv}
use Rattle.tpol_tree.specs.declared.closed.ClosedBranches.{ClosedBranches}
use Rattle.tpol_tree.specs.declared.closed.ClosedBranches.TheVariants.{More' as MoreBranches', End as EndBranches}

-- how many branches there are
abbrev pub branch_count : ClosedBranches → ℕ
branch_count EndBranches = 0
branch_count (MoreBranches' p name elements q rest) = branch_count rest + 1

-- an OR has 2 to 8 branches
abbrev pub IsBranchCount : ℕ → Type 0
IsBranchCount n = (2 ≤ n) × (n ≤ 8)

-- each OR, at any depth, has 2 to 8 branches
abbrev mutual
  pub HasBranchCounts : ClosedElements → Type 0
  HasBranchCounts End = ⊤
  HasBranchCounts (More' p element q rest) = ElementHasBranchCounts element × HasBranchCounts rest

  pub ElementHasBranchCounts : ClosedElement → Type 0
  ElementHasBranchCounts (Assert assertion) = ⊤
  ElementHasBranchCounts (Or branches) = IsBranchCount (branch_count branches) × BranchesHaveBranchCounts branches
  ElementHasBranchCounts (Authorize key policy_ref) = ⊤
  ElementHasBranchCounts (AuthorizeNv index) = ⊤

  pub BranchesHaveBranchCounts : ClosedBranches → Type 0
  BranchesHaveBranchCounts EndBranches = ⊤
  BranchesHaveBranchCounts (MoreBranches' p name elements q rest) = HasBranchCounts elements × BranchesHaveBranchCounts rest

-- an approval has no element before it in its list, nor before an OR that encloses it; `leads` says
-- whether there is none before these elements
abbrev mutual
  pub ApprovalsLead : Bool → ClosedElements → Type 0
  ApprovalsLead leads End = ⊤
  ApprovalsLead leads (More' p element q rest) = ApprovalsLeadElement leads element × ApprovalsLead false rest

  pub ApprovalsLeadElement : Bool → ClosedElement → Type 0
  ApprovalsLeadElement leads (Assert assertion) = ⊤
  ApprovalsLeadElement leads (Or branches) = ApprovalsLeadBranches leads branches
  ApprovalsLeadElement leads (Authorize key policy_ref) = IsTrue leads
  ApprovalsLeadElement leads (AuthorizeNv index) = IsTrue leads

  pub ApprovalsLeadBranches : Bool → ClosedBranches → Type 0
  ApprovalsLeadBranches leads EndBranches = ⊤
  ApprovalsLeadBranches leads (MoreBranches' p name elements q rest) = ApprovalsLead leads elements × ApprovalsLeadBranches leads rest

-- P holds of each element, at any depth
abbrev mutual
  pub EachElement : (ClosedElement → Type 0) → ClosedElements → Type 0
  EachElement P End = ⊤
  EachElement P (More' p element q rest) = EachElementWithin P element × EachElement P rest

  pub EachElementWithin : (ClosedElement → Type 0) → ClosedElement → Type 0
  EachElementWithin P (Or branches) = P (Or branches) × EachElementOfBranches P branches
  EachElementWithin P element = P element

  pub EachElementOfBranches : (ClosedElement → Type 0) → ClosedBranches → Type 0
  EachElementOfBranches P EndBranches = ⊤
  EachElementOfBranches P (MoreBranches' p name elements q rest) = EachElement P elements × EachElementOfBranches P rest

-- P holds of each assertion, at any depth
abbrev mutual
  pub EachAssertion : (Assertion → Type 0) → ClosedElements → Type 0
  EachAssertion P End = ⊤
  EachAssertion P (More' p element q rest) = EachAssertionOfElement P element × EachAssertion P rest

  pub EachAssertionOfElement : (Assertion → Type 0) → ClosedElement → Type 0
  EachAssertionOfElement P (Assert assertion) = P assertion
  EachAssertionOfElement P (Or branches) = EachAssertionOfBranches P branches
  EachAssertionOfElement P (Authorize key policy_ref) = ⊤
  EachAssertionOfElement P (AuthorizeNv index) = ⊤

  pub EachAssertionOfBranches : (Assertion → Type 0) → ClosedBranches → Type 0
  EachAssertionOfBranches P EndBranches = ⊤
  EachAssertionOfBranches P (MoreBranches' p name elements q rest) = EachAssertion P elements × EachAssertionOfBranches P rest

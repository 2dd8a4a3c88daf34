-- Policies none of whose ORs has more branches than PolicyOR takes digests.
use Rattle.std.specs.Prelude.{◌≤◌, All, List, ⊤}
use Rattle.tpol_tree.specs.declared.closed.Closed.{Closed}
use Rattle.tpol_tree.specs.declared.closed.ClosedElements.{ClosedElements}
use Rattle.tpol_tree.specs.declared.closed.ClosedElements.TheVariants.{More', End}
use Rattle.tpol_tree.specs.declared.closed.ClosedElement.{ClosedElement}
use Rattle.tpol_tree.specs.declared.closed.ClosedElement.TheVariants.{Assert, Or, Authorize, AuthorizeNv}
use Rattle.tpol_tree.specs.declared.closed.ClosedBranches.{ClosedBranches}
use Rattle.tpol_tree.specs.declared.closed.ClosedBranches.TheVariants.{More' as MoreBranches', End as EndBranches}
use Rattle.tpol_tree.specs.declared.path.ApprovedDoc.{ApprovedDoc}
use Rattle.tpol_tree.specs.Closed.{branch_count}

-- each OR, at any depth, has at most 8 branches
abbrev mutual
  pub HasFewBranches : ClosedElements → Type 0
  HasFewBranches End = ⊤
  HasFewBranches (More' p element q rest) = ElementHasFewBranches element × HasFewBranches rest

  pub ElementHasFewBranches : ClosedElement → Type 0
  ElementHasFewBranches (Assert assertion) = ⊤
  ElementHasFewBranches (Or branches) = (branch_count branches ≤ 8) × BranchesHaveFewBranches branches
  ElementHasFewBranches (Authorize key policy_ref) = ⊤
  ElementHasFewBranches (AuthorizeNv index) = ⊤

  pub BranchesHaveFewBranches : ClosedBranches → Type 0
  BranchesHaveFewBranches EndBranches = ⊤
  BranchesHaveFewBranches (MoreBranches' p name elements q rest) = HasFewBranches elements × BranchesHaveFewBranches rest

-- each OR of the policy and of the approved documents has at most 8 branches
pub record HaveFewBranches (policy : Closed) (approvals : List ApprovedDoc) : Type 0 where
  pub policy_itself : HasFewBranches policy.elements
  pub documents : All (λ document. HasFewBranches document.closed.elements) approvals

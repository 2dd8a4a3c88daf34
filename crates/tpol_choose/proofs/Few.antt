-- What has 2 to 8 branches at each OR has at most 8.
use Rattle.std.proofs.Common.{List, get_or}
use Rattle.tpol_tree.specs.declared.closed.Closed.{Closed}
use Rattle.tpol_tree.specs.declared.closed.ClosedElements.{ClosedElements}
use Rattle.tpol_tree.specs.declared.closed.ClosedElements.TheVariants.{More', End}
use Rattle.tpol_tree.specs.declared.closed.ClosedElement.{ClosedElement}
use Rattle.tpol_tree.specs.declared.closed.ClosedElement.TheVariants.{Assert, Or, Authorize, AuthorizeNv}
use Rattle.tpol_tree.specs.declared.closed.ClosedBranches.{ClosedBranches}
use Rattle.tpol_tree.specs.declared.closed.ClosedBranches.TheVariants.{More' as MoreBranches', End as EndBranches}
use Rattle.tpol_tree.specs.declared.path.ApprovedDoc.{ApprovedDoc}
use Rattle.tpol_tree.specs.Closed.{HasBranchCounts, ElementHasBranchCounts, BranchesHaveBranchCounts}
use Rattle.tpol_digest.specs.WellFormed.{HaveBranchCounts}
use Rattle.tpol_choose.specs.Few.{HasFewBranches, ElementHasFewBranches, BranchesHaveFewBranches, HaveFewBranches}

mutual
  few_in : (elements : ClosedElements) → HasBranchCounts elements → HasFewBranches elements
  few_in End h = tt
  few_in (More' p element q rest) h = (few_in_element element h.0, few_in rest h.1)

  few_in_element : (element : ClosedElement) → ElementHasBranchCounts element → ElementHasFewBranches element
  few_in_element (Assert assertion) h = tt
  few_in_element (Or branches) h = (h.0.1, few_in_branches branches h.1)
  few_in_element (Authorize key policy_ref) h = tt
  few_in_element (AuthorizeNv index) h = tt

  few_in_branches : (branches : ClosedBranches) → BranchesHaveBranchCounts branches → BranchesHaveFewBranches branches
  few_in_branches EndBranches h = tt
  few_in_branches (MoreBranches' p name elements q rest) h = (few_in elements h.0, few_in_branches rest h.1)

pub few_branches : (policy : Closed) (approvals : List ApprovedDoc) → HaveBranchCounts policy approvals → HaveFewBranches policy approvals
few_branches policy approvals h = record {
  policy_itself = few_in policy.elements h.policy_itself;
  documents = λ i d within. few_in (get_or approvals i d).closed.elements (h.documents i d within);
}

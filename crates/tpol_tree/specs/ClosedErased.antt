-- Closed policies and approved documents whichever memory they lie in: the same with boxes that lie nowhere.
use Rattle.tpol_tree.specs.declared.closed.Closed.{Closed}
use Rattle.tpol_tree.specs.declared.closed.ClosedBranches.{ClosedBranches}
use Rattle.tpol_tree.specs.declared.closed.ClosedBranches.TheVariants.{More' as MoreBranches', End as EndBranches}
use Rattle.tpol_tree.specs.declared.closed.ClosedElement.{ClosedElement}
use Rattle.tpol_tree.specs.declared.closed.ClosedElement.TheVariants.{Assert, Or, Authorize, AuthorizeNv}
use Rattle.tpol_tree.specs.declared.closed.ClosedElements.{ClosedElements}
use Rattle.tpol_tree.specs.declared.closed.ClosedElements.TheVariants.{More', End}
use Rattle.tpol_tree.specs.declared.path.ApprovedDoc.{ApprovedDoc}
use Rattle.tpol_tree.specs.Erased.{nowhere}

abbrev mutual
  pub erased_elements : ClosedElements → ClosedElements
  erased_elements End = End
  erased_elements (More' p element q rest) = More' nowhere (erased_element element) nowhere (erased_elements rest)

  pub erased_element : ClosedElement → ClosedElement
  erased_element (Assert assertion) = Assert assertion
  erased_element (Or branches) = Or (erased_branches branches)
  erased_element (Authorize key policy_ref) = Authorize key policy_ref
  erased_element (AuthorizeNv index) = AuthorizeNv index

  pub erased_branches : ClosedBranches → ClosedBranches
  erased_branches EndBranches = EndBranches
  erased_branches (MoreBranches' p name elements q rest) =
      MoreBranches' nowhere name (erased_elements elements) nowhere (erased_branches rest)

-- a policy without the places of its boxes
abbrev pub erased : Closed → Closed
erased closed = record { elements = erased_elements closed.elements }

-- an approved document without the places of its boxes
abbrev pub erased_document : ApprovedDoc → ApprovedDoc
erased_document document = record document { closed = erased document.closed }

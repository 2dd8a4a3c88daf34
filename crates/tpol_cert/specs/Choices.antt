-- The choices of each path of a policy, in the order of the paths: a branch and an approved document by their numbers
-- from 1.
use Rattle.std.specs.Prelude.{ℕ, zero, suc, ◌+◌, Bool, true, false, nat_eq, List, [], ◌∷◌, ◌++◌, map, is_some, if◌then◌else◌}
use Rattle.std.specs.List.{flat_map}
use Rattle.tpol_tree.specs.declared.closed.Closed.{Closed}
use Rattle.tpol_tree.specs.declared.closed.ClosedElements.{ClosedElements}
use Rattle.tpol_tree.specs.declared.closed.ClosedElements.TheVariants.{More', End}
use Rattle.tpol_tree.specs.declared.closed.ClosedElement.{ClosedElement}
use Rattle.tpol_tree.specs.declared.closed.ClosedElement.TheVariants.{Assert, Or, Authorize, AuthorizeNv}
use Rattle.tpol_tree.specs.declared.closed.ClosedBranches.{ClosedBranches}
use Rattle.tpol_tree.specs.declared.closed.ClosedBranches.TheVariants.{More' as MoreBranches', End as EndBranches}
use Rattle.tpol_tree.specs.declared.path.ApprovedDoc.{ApprovedDoc}
use Rattle.tpol_digest.specs.Paths.{approval_of}
use Rattle.tpol_cert.specs.declared.choice.Choice.{Choice}
use Rattle.tpol_cert.specs.declared.choice.Choice.TheVariants.{Branch, Document, Outside}

-- each of the first followed by each of the others
abbrev pub each_with : List (List Choice) → List (List Choice) → List (List Choice)
each_with firsts rests = flat_map (λ first. map (λ rest. first ++ rest) rests) firsts

-- each behind one more choice
abbrev pub behind : Choice → List (List Choice) → List (List Choice)
behind choice rests = map (λ rest. choice ∷ rest) rests

-- of the documents that an element's approver approved, the next of which has this number, where `within` gives the
-- choices of the paths of one
abbrev pub approved_choices : (ApprovedDoc → List (List Choice)) → ℕ → ClosedElement → List ApprovedDoc → List (List Choice)
approved_choices within number element [] = []
approved_choices within number element (document ∷ rest) =
    if is_some (approval_of element document)
    then behind (Document number) (within document) ++ approved_choices within (number + 1) element rest
    else approved_choices within number element rest

-- of elements, of one element, and of branches from a position on
abbrev mutual
  pub choices_at : (ApprovedDoc → List (List Choice)) → List ApprovedDoc → ClosedElements → List (List Choice)
  choices_at within documents End = [] ∷ []
  choices_at within documents (More' p element q rest) =
      each_with (choices_at_element within documents element) (choices_at within documents rest)

  pub choices_at_element : (ApprovedDoc → List (List Choice)) → List ApprovedDoc → ClosedElement → List (List Choice)
  choices_at_element within documents (Assert assertion) = [] ∷ []
  choices_at_element within documents (Or branches) = choices_at_branches within documents branches 1
  choices_at_element within documents (Authorize key policy_ref) =
      approved_choices within 1 (Authorize key policy_ref) documents ++ (Outside ∷ []) ∷ []
  choices_at_element within documents (AuthorizeNv index) =
      approved_choices within 1 (AuthorizeNv index) documents ++ (Outside ∷ []) ∷ []

  pub choices_at_branches : (ApprovedDoc → List (List Choice)) → List ApprovedDoc → ClosedBranches → ℕ → List (List Choice)
  choices_at_branches within documents EndBranches position = []
  choices_at_branches within documents (MoreBranches' p name elements q rest) position =
      behind (Branch position) (choices_at within documents elements) ++ choices_at_branches within documents rest (position + 1)

-- of a document, with at most so many approvals inside one another, its own included
unfoldable pub document_choices : List ApprovedDoc → ℕ → ApprovedDoc → List (List Choice)
document_choices documents zero document = []
document_choices documents (suc levels) document =
    choices_at (document_choices documents levels) documents document.closed.elements

-- of a policy, with at most four approvals inside one another
abbrev pub choices_of : Closed → List ApprovedDoc → List (List Choice)
choices_of policy documents = choices_at (document_choices documents 4) documents policy.elements

-- ---- of the parts of a policy, where documents may be entered so many levels deep

abbrev pub element_list_choices : List ApprovedDoc → ℕ → ClosedElements → List (List Choice)
element_list_choices documents levels elements = choices_at (document_choices documents levels) documents elements

abbrev pub element_choices : List ApprovedDoc → ℕ → ClosedElement → List (List Choice)
element_choices documents levels element = choices_at_element (document_choices documents levels) documents element

abbrev pub branch_choices : List ApprovedDoc → ℕ → ClosedBranches → ℕ → List (List Choice)
branch_choices documents levels branches position =
    choices_at_branches (document_choices documents levels) documents branches position

-- of an element that asks for an approval
abbrev pub approval_choices : List ApprovedDoc → ℕ → ClosedElement → List (List Choice)
approval_choices documents levels element =
    approved_choices (document_choices documents levels) 1 element documents ++ (Outside ∷ []) ∷ []

-- whether two choices are the same
abbrev pub same_choice : Choice → Choice → Bool
same_choice (Branch a) (Branch b) = nat_eq a b
same_choice (Document a) (Document b) = nat_eq a b
same_choice Outside Outside = true
same_choice _ _ = false

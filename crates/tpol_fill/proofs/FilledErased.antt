-- What is filled, and which places have no value, is the same whichever memory a policy lies in.
use Rattle.std.proofs.Common.{◌≡◌, ◌+◌, ◌++◌, ◌∷◌, ℕ, Bool, false, true, codes, refl, ap, ◌∙◌}
use Rattle.std.specs.Prelude.{Option}
use Rattle.tpol_fill.specs.Filling.{branches_faults, element_faults, elements_faults, filled_branches, filled_element, filled_elements}
use Rattle.tpol_fill.specs.Groups.{branches_of, grouped}
use Rattle.tpol_fill.specs.Laws.{FaultsIgnoreBoxes, FilledIgnoresBoxes}
use Rattle.tpol_json.specs.declared.place.Place.{Place}
use Rattle.tpol_json.specs.Places.{at_item, at_member, root}
use Rattle.tpol_name.specs.declared.sight.Sight.{Sight}
use Rattle.tpol_tree.specs.declared.closed.ClosedElement.TheVariants.{Or as ClosedOr}
use Rattle.tpol_tree.specs.declared.closed.ClosedElements.{ClosedElements}
use Rattle.tpol_tree.specs.declared.closed.ClosedElements.TheVariants.{More' as MoreClosed'}
use Rattle.tpol_tree.specs.declared.policy.Branches.{Branches}
use Rattle.tpol_tree.specs.declared.policy.Branches.TheVariants.{More' as MoreBranches', End as EndBranches}
use Rattle.tpol_tree.specs.declared.policy.Element.{Element}
use Rattle.tpol_tree.specs.declared.policy.Element.TheVariants.{Or}
use Rattle.tpol_tree.specs.declared.policy.Elements.{Elements}
use Rattle.tpol_tree.specs.declared.policy.Elements.TheVariants.{More', End}
use Rattle.tpol_tree.specs.Erased.{erased_branches, erased_element, erased_elements, nowhere}

mutual
  -- the filled policy
  filled_elements-erased : (sight : Option Sight) (elements : Elements) → filled_elements sight (erased_elements elements) ≡ filled_elements sight elements
  filled_elements-erased sight End = refl
  filled_elements-erased sight (More' p element q rest) =
      ap (λ first. MoreClosed' nowhere first nowhere (filled_elements sight (erased_elements rest))) (filled_element-erased sight element)
      ∙ ap (λ others. MoreClosed' nowhere (filled_element sight element) nowhere others) (filled_elements-erased sight rest)

  filled_element-erased : (sight : Option Sight) (element : Element) → filled_element sight (erased_element element) ≡ filled_element sight element
  filled_element-erased sight (Or branches) = ap (λ found. ClosedOr (branches_of (grouped found))) (filled_branches-erased sight branches)
  filled_element-erased sight element = refl

  filled_branches-erased : (sight : Option Sight) (branches : Branches) → filled_branches sight (erased_branches branches) ≡ filled_branches sight branches
  filled_branches-erased sight EndBranches = refl
  filled_branches-erased sight (MoreBranches' p name description elements q rest) =
      ap (λ (first : ClosedElements). (name, first) ∷ filled_branches sight (erased_branches rest)) (filled_elements-erased sight elements)
      ∙ ap (λ others. (name, filled_elements sight elements) ∷ others) (filled_branches-erased sight rest)

mutual
  -- the places without a value
  elements_faults-erased : (sight : Option Sight) (leads : Bool) (list : Place) (n : ℕ) (elements : Elements) → elements_faults sight leads list n (erased_elements elements) ≡ elements_faults sight leads list n elements
  elements_faults-erased sight leads list n End = refl
  elements_faults-erased sight leads list n (More' p element q rest) =
      ap (λ first. first ++ elements_faults sight false list (n + 1) (erased_elements rest)) (element_faults-erased sight leads (at_item list n) element)
      ∙ ap (λ others. element_faults sight leads (at_item list n) element ++ others) (elements_faults-erased sight false list (n + 1) rest)

  element_faults-erased : (sight : Option Sight) (leads : Bool) (place : Place) (element : Element) → element_faults sight leads place (erased_element element) ≡ element_faults sight leads place element
  element_faults-erased sight leads place (Or branches) = branches_faults-erased sight leads (at_member place (codes "branches")) 0 branches
  element_faults-erased sight leads place element = refl

  branches_faults-erased : (sight : Option Sight) (leads : Bool) (list : Place) (n : ℕ) (branches : Branches) → branches_faults sight leads list n (erased_branches branches) ≡ branches_faults sight leads list n branches
  branches_faults-erased sight leads list n EndBranches = refl
  branches_faults-erased sight leads list n (MoreBranches' p name description elements q rest) =
      ap (λ first. first ++ branches_faults sight leads list (n + 1) (erased_branches rest)) (elements_faults-erased sight leads (at_member (at_item list n) (codes "policy")) 0 elements)
      ∙ ap (λ others. elements_faults sight leads (at_member (at_item list n) (codes "policy")) 0 elements ++ others) (branches_faults-erased sight leads list (n + 1) rest)

pub filled_ignores_boxes : FilledIgnoresBoxes
filled_ignores_boxes policy sight = ap (λ (elements : ClosedElements). record { elements = elements }) (filled_elements-erased sight policy.elements)

pub faults_ignore_boxes : FaultsIgnoreBoxes
faults_ignore_boxes policy sight = elements_faults-erased sight true (at_member root (codes "policy")) 0 policy.elements

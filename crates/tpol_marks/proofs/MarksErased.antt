-- Marks are the same whichever memory a policy lies in.
use Rattle.std.proofs.Common.{◌≡◌, ◌+◌, ◌++◌, ◌∷◌, ℕ, [], codes, refl, ap, sym, ◌∙◌}
use Rattle.std.specs.Prelude.{Option}
use Rattle.tpol_base.specs.declared.digest.Digest32.{Digest32}
use Rattle.tpol_digest.specs.Digest.{digest_at_element, zero_digest}
use Rattle.tpol_fill.proofs.FilledErased.{filled_ignores_boxes}
use Rattle.tpol_fill.specs.Filling.{filled_element}
use Rattle.tpol_json.specs.declared.place.Place.{Place}
use Rattle.tpol_json.specs.Places.{at_item, at_member, root}
use Rattle.tpol_marks.proofs.Walked.{first_or}
use Rattle.tpol_marks.specs.Marks.{marks_of, marks_of_branches, marks_of_elements, marks_within, mark_of}
use Rattle.tpol_name.specs.declared.sight.Sight.{Sight}
use Rattle.tpol_tree.specs.Erased.{erased_branches, erased_element, erased_elements, erased_policy, nowhere}
use Rattle.tpol_tree.specs.declared.closed.Closed.{Closed}
use Rattle.tpol_tree.specs.declared.closed.ClosedElement.{ClosedElement}
use Rattle.tpol_tree.specs.declared.policy.Branches.{Branches}
use Rattle.tpol_tree.specs.declared.policy.Branches.TheVariants.{More' as MoreBranches', End as EndBranches}
use Rattle.tpol_tree.specs.declared.policy.Element.{Element}
use Rattle.tpol_tree.specs.declared.policy.Element.TheVariants.{Or}
use Rattle.tpol_tree.specs.declared.policy.Elements.{Elements}
use Rattle.tpol_tree.specs.declared.policy.Elements.TheVariants.{More', End}
use Rattle.tpol_tree.specs.declared.policy.Policy.{Policy}

filled_element-erased : (sight : Option Sight) (element : Element) → filled_element sight (erased_element element) ≡ filled_element sight element
filled_element-erased sight element =
    ap (λ (closed : Closed). first_or (filled_element sight element) closed.elements)
    (filled_ignores_boxes (record { description = []; elements = More' nowhere element nowhere End; approvals = [] }) sight)

mutual
  elements-erased : (sight : Option Sight) (list : Place) (n : ℕ) (elements : Elements) (d : Digest32) → marks_of_elements sight list n (erased_elements elements) d ≡ marks_of_elements sight list n elements d
  elements-erased sight list n End d = refl
  elements-erased sight list n (More' p element q rest) d =
      let place = at_item list n in
      ap (λ l. (l ++ mark_of sight place (erased_element element) d ∷ []) ++ marks_of_elements sight list (n + 1) (erased_elements rest) (digest_at_element (filled_element sight (erased_element element)) d)) (within-erased sight place element d)
      ∙ ap (λ (closed : ClosedElement). (marks_within sight place element d ++ record { place = place; digest = digest_at_element closed d } ∷ []) ++ marks_of_elements sight list (n + 1) (erased_elements rest) (digest_at_element closed d)) (filled_element-erased sight element)
      ∙ ap (λ l. (marks_within sight place element d ++ mark_of sight place element d ∷ []) ++ l) (elements-erased sight list (n + 1) rest (digest_at_element (filled_element sight element) d))

  within-erased : (sight : Option Sight) (place : Place) (element : Element) (d : Digest32) → marks_within sight place (erased_element element) d ≡ marks_within sight place element d
  within-erased sight place (Or branches) d = branches-erased sight (at_member place (codes "branches")) 0 branches d
  within-erased sight place element d = refl

  branches-erased : (sight : Option Sight) (list : Place) (n : ℕ) (branches : Branches) (d : Digest32) → marks_of_branches sight list n (erased_branches branches) d ≡ marks_of_branches sight list n branches d
  branches-erased sight list n EndBranches d = refl
  branches-erased sight list n (MoreBranches' p name description elements q rest) d =
      ap (λ l. l ++ marks_of_branches sight list (n + 1) (erased_branches rest) d) (elements-erased sight (at_member (at_item list n) (codes "policy")) 0 elements d)
      ∙ ap (λ l. marks_of_elements sight (at_member (at_item list n) (codes "policy")) 0 elements d ++ l) (branches-erased sight list (n + 1) rest d)

pub marks_of-erased : (sight : Option Sight) (policy : Policy) → marks_of_elements sight (at_member root (codes "policy")) 0 policy.elements zero_digest ≡ marks_of sight (erased_policy policy)
unfolding marks_of
marks_of-erased sight policy = sym (elements-erased sight (at_member root (codes "policy")) 0 policy.elements zero_digest)

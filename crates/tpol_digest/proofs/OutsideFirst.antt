-- An outside path of a well-formed policy begins with an approval of 32 zero bytes.
use Rattle.std.proofs.Common.{◌≡◌, ℕ, zero, suc, ◌+◌, Bool, true, false, IsTrue, List, [], ◌∷◌, ◌++◌, map, Option, Some, None, refl, sym, ap, ◌∙◌}
use Rattle.std.specs.Prelude.{All, ◌||◌}
use Rattle.std.specs.List.{AllByRecursion}
use Rattle.std.proofs.lemmas.Bool.{false≢true}
use Rattle.std.proofs.lemmas.List.Elements.{All-from_recursion, recursion_from_All}
use Rattle.tpol_base.specs.declared.digest.Digest32.{Digest32}
use Rattle.tpol_tree.specs.declared.closed.Closed.{Closed}
use Rattle.tpol_tree.specs.declared.closed.ClosedElements.{ClosedElements}
use Rattle.tpol_tree.specs.declared.closed.ClosedElements.TheVariants.{More', End}
use Rattle.tpol_tree.specs.declared.closed.ClosedElement.{ClosedElement}
use Rattle.tpol_tree.specs.declared.closed.ClosedElement.TheVariants.{Assert, Or, Authorize, AuthorizeNv}
use Rattle.tpol_tree.specs.declared.closed.ClosedBranches.{ClosedBranches}
use Rattle.tpol_tree.specs.declared.closed.ClosedBranches.TheVariants.{More' as MoreBranches', End as EndBranches}
use Rattle.tpol_tree.specs.declared.path.ApprovedDoc.{ApprovedDoc}
use Rattle.tpol_tree.specs.declared.path.Move.{Move}
use Rattle.tpol_tree.specs.declared.path.Move.TheVariants.{Or as OrMove}
use Rattle.tpol_tree.specs.declared.path.Path.{Path}
use Rattle.tpol_tree.specs.declared.path.PathStep.{PathStep}
use Rattle.tpol_tree.specs.declared.path.PathStep.TheVariants.{Branch, Document}
use Rattle.tpol_tree.specs.Closed.{ApprovalsLead, ApprovalsLeadElement, ApprovalsLeadBranches}
use Rattle.tpol_digest.specs.Digest.{zero_digest, digest_at_element, branch_digests}
use Rattle.tpol_digest.specs.Paths.{followed_by, between, approval_of, paths_by_approval, approved_paths, outside_paths, paths_at, paths_at_element, paths_at_branches, document_paths, paths_of, BeginsWithZeroApproval}
use Rattle.tpol_digest.specs.WellFormed.{IsWellFormed, IsWellFormedDocument}
use Rattle.tpol_digest.proofs.Products.{Each-append, Each-map, Each-flat_map, Each-product}

begins-append : (xs ys : List Move) → BeginsWithZeroApproval xs → BeginsWithZeroApproval (xs ++ ys)
begins-append [] ys h = absurd h
begins-append (x ∷ xs) ys h = h

-- behind nothing, an outside path begins with such an approval; behind an element, no path is outside
abbrev OutsideFirst : Bool → Path → Type 0
OutsideFirst true p = IsTrue p.outside → BeginsWithZeroApproval p.moves
OutsideFirst false p = p.outside ≡ false

or_left : (a b : Bool) → b ≡ false → IsTrue (a || b) → IsTrue a
or_left true b e h = refl
or_left false b e h = absurd (false≢true (sym e ∙ h))

followed_first : (leads : Bool) (p q : Path) → OutsideFirst leads p → OutsideFirst false q → OutsideFirst leads (followed_by p q)
followed_first true p q h k = λ outside. begins-append p.moves q.moves (h (or_left p.outside q.outside k outside))
followed_first false p q h k = ap (λ b. b || q.outside) h ∙ k

between_first : (leads : Bool) (step : PathStep) (act : Move) (p : Path) → OutsideFirst leads p → OutsideFirst leads (between step act p)
between_first true step act p h = λ outside. begins-append p.moves (act ∷ []) (h outside)
between_first false step act p h = h

none_outside : (leads : Bool) (p : Path) → p.outside ≡ false → OutsideFirst leads p
none_outside true p e = λ outside. absurd (false≢true (sym e ∙ outside))
none_outside false p e = e

module _ (within : ApprovedDoc → List Path) (documents : List ApprovedDoc) (first_within : AllByRecursion (λ document. AllByRecursion (OutsideFirst true) (within document)) documents) where
  approved_first : (element : ClosedElement) → AllByRecursion (OutsideFirst true) (approved_paths within documents element)
  approved_first element =
      Each-flat_map (λ document. AllByRecursion (OutsideFirst true) (within document)) (OutsideFirst true) (λ document. paths_by_approval (approval_of element document) document (within document)) documents (λ document paths. one document (approval_of element document) paths) first_within
    where
      one : (document : ApprovedDoc) (found : Option Move) → AllByRecursion (OutsideFirst true) (within document) → AllByRecursion (OutsideFirst true) (paths_by_approval found document (within document))
      one document None paths = tt
      one document (Some act) paths =
          Each-map (OutsideFirst true) (OutsideFirst true) (between (Document document.document) act) (within document) (between_first true (Document document.document) act) paths

  leading_first : (element : ClosedElement) (leads : Bool) → IsTrue leads → AllByRecursion (OutsideFirst true) (outside_paths element) → AllByRecursion (OutsideFirst leads) (approved_paths within documents element ++ outside_paths element)
  leading_first element true lead h = Each-append (OutsideFirst true) (approved_paths within documents element) (outside_paths element) (approved_first element) h
  leading_first element false lead h = absurd (false≢true lead)

  mutual
    paths_at_first : (elements : ClosedElements) (d : Digest32) (leads : Bool) → ApprovalsLead leads elements → AllByRecursion (OutsideFirst leads) (paths_at within documents elements d)
    paths_at_first End d leads lead = (none_outside leads _ refl, tt)
    paths_at_first (More' p element q rest) d leads lead =
        Each-product (OutsideFirst leads) (OutsideFirst false) (OutsideFirst leads) (paths_at_element within documents element d) (paths_at within documents rest (digest_at_element element d)) (followed_first leads) (paths_at_element_first element d leads lead.0) (paths_at_first rest (digest_at_element element d) false lead.1)

    paths_at_element_first : (element : ClosedElement) (d : Digest32) (leads : Bool) → ApprovalsLeadElement leads element → AllByRecursion (OutsideFirst leads) (paths_at_element within documents element d)
    paths_at_element_first (Assert assertion) d leads lead = (none_outside leads _ refl, tt)
    paths_at_element_first (Or branches) d leads lead =
        paths_at_branches_first branches 1 (OrMove (branch_digests branches d)) d leads lead
    paths_at_element_first (Authorize key policy_ref) d leads lead =
        leading_first (Authorize key policy_ref) leads lead (λ _. refl, tt)
    paths_at_element_first (AuthorizeNv index) d leads lead = leading_first (AuthorizeNv index) leads lead (λ _. refl, tt)

    paths_at_branches_first : (branches : ClosedBranches) (position : ℕ) (act : Move) (d : Digest32) (leads : Bool) → ApprovalsLeadBranches leads branches → AllByRecursion (OutsideFirst leads) (paths_at_branches within documents branches position act d)
    paths_at_branches_first EndBranches position act d leads lead = tt
    paths_at_branches_first (MoreBranches' p name elements q rest) position act d leads lead =
        Each-append (OutsideFirst leads) (map (between (Branch position name) act) (paths_at within documents elements d)) (paths_at_branches within documents rest (position + 1) act d) (Each-map (OutsideFirst leads) (OutsideFirst leads) (between (Branch position name) act) (paths_at within documents elements d) (between_first leads (Branch position name) act) (paths_at_first elements d leads lead.0)) (paths_at_branches_first rest (position + 1) act d leads lead.1)

document_first : (documents : List ApprovedDoc) → AllByRecursion IsWellFormedDocument documents → (levels : ℕ) → AllByRecursion (λ document. AllByRecursion (OutsideFirst true) (document_paths documents levels document)) documents
unfolding document_paths
document_first documents well zero = each documents
  where
    each : (some : List ApprovedDoc) → AllByRecursion (λ document. AllByRecursion (OutsideFirst true) (document_paths documents zero document)) some
    each [] = tt
    each (document ∷ rest) = (tt, each rest)
document_first documents well (suc levels) = each (document_first documents well levels) documents well
  where
    each : AllByRecursion (λ document. AllByRecursion (OutsideFirst true) (document_paths documents levels document)) documents → (some : List ApprovedDoc) → AllByRecursion IsWellFormedDocument some → AllByRecursion (λ document. AllByRecursion (OutsideFirst true) (document_paths documents (suc levels) document)) some
    each before [] w = tt
    each before (document ∷ rest) w = (
      paths_at_first (document_paths documents levels) documents before document.closed.elements zero_digest true w.0.policy.approvals_lead,
      each before rest w.1,
    )

pub paths_of_first : (policy : Closed) (approvals : List ApprovedDoc) → IsWellFormed policy approvals → All (λ p. IsTrue p.outside → BeginsWithZeroApproval p.moves) (paths_of policy approvals)
paths_of_first policy approvals well =
    All-from_recursion (λ p. IsTrue p.outside → BeginsWithZeroApproval p.moves) (paths_of policy approvals) (paths_at_first (document_paths approvals 4) approvals (document_first approvals (recursion_from_All IsWellFormedDocument approvals well.documents) 4) policy.elements zero_digest true well.policy_itself.approvals_lead)

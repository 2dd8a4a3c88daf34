-- The choices of a policy's paths, and what is answered of bytes, whichever memory the policy lies in.
use Rattle.std.proofs.Common.{◌≡◌, ℕ, zero, suc, ◌+◌, ◌-◌, Bool, true, false, List, [], ◌∷◌, ◌++◌, map, refl, ap, ◌∙◌}
use Rattle.std.specs.Prelude.{is_some, if◌then◌else◌}
use Rattle.std.specs.List.{slice_get}
use Rattle.tpol_tree.specs.ClosedErased.{erased, erased_branches, erased_document, erased_element, erased_elements}
use Rattle.tpol_tree.specs.declared.closed.Closed.{Closed}
use Rattle.tpol_tree.specs.declared.closed.ClosedElements.{ClosedElements}
use Rattle.tpol_tree.specs.declared.closed.ClosedElements.TheVariants.{More', End}
use Rattle.tpol_tree.specs.declared.closed.ClosedElement.{ClosedElement}
use Rattle.tpol_tree.specs.declared.closed.ClosedElement.TheVariants.{Assert, Or, Authorize, AuthorizeNv}
use Rattle.tpol_tree.specs.declared.closed.ClosedBranches.{ClosedBranches}
use Rattle.tpol_tree.specs.declared.closed.ClosedBranches.TheVariants.{More' as MoreBranches', End as EndBranches}
use Rattle.tpol_tree.specs.declared.path.ApprovedDoc.{ApprovedDoc}
use Rattle.tpol_digest.proofs.Erasures.{paths_ignore_boxes}
use Rattle.tpol_digest.specs.Paths.{approval_of, paths_of}
use Rattle.tpol_cert.specs.declared.choice.Choice.{Choice}
use Rattle.tpol_cert.specs.declared.choice.Choice.TheVariants.{Branch, Document, Outside}
use Rattle.tpol_cert.specs.Choices.{approved_choices, behind, choices_at, choices_at_branches, choices_at_element, choices_of, document_choices, each_with}
use Rattle.tpol_cert.specs.Judgement.{certificate_bytes, certificate_with, judgement_of, judgement_on}
use Rattle.tpol_cert.specs.Laws.{ChoicesIgnoreBoxes, HasCertificate}
use Rattle.tpol_cert.specs.Reading.{certificate_in}

-- ---- where two lists of documents are entered alike

module _ (within other : ApprovedDoc → List (List Choice)) (documents others : List ApprovedDoc) (alike : (element : ClosedElement) → approved_choices within 1 element documents ≡ approved_choices other 1 element others) where
  mutual
    elements_erased : (elements : ClosedElements) → choices_at within documents (erased_elements elements) ≡ choices_at other others elements
    elements_erased End = refl
    elements_erased (More' p element q rest) =
        ap (λ firsts. each_with firsts (choices_at within documents (erased_elements rest))) (element_erased element)
        ∙ ap (each_with (choices_at_element other others element)) (elements_erased rest)

    element_erased : (element : ClosedElement) → choices_at_element within documents (erased_element element) ≡ choices_at_element other others element
    element_erased (Assert assertion) = refl
    element_erased (Or branches) = branches_erased branches 1
    element_erased (Authorize key policy_ref) = ap (λ l. l ++ (Outside ∷ []) ∷ []) (alike (Authorize key policy_ref))
    element_erased (AuthorizeNv index) = ap (λ l. l ++ (Outside ∷ []) ∷ []) (alike (AuthorizeNv index))

    branches_erased : (branches : ClosedBranches) (position : ℕ) → choices_at_branches within documents (erased_branches branches) position ≡ choices_at_branches other others branches position
    branches_erased EndBranches position = refl
    branches_erased (MoreBranches' p name elements q rest) position =
        ap (λ l. behind (Branch position) l ++ choices_at_branches within documents (erased_branches rest) (position + 1)) (elements_erased elements)
        ∙ ap (λ l. behind (Branch position) (choices_at other others elements) ++ l) (branches_erased rest (position + 1))

-- ---- erased documents

approval_erased : (element : ClosedElement) (document : ApprovedDoc) → approval_of element (erased_document document) ≡ approval_of element document
approval_erased (Assert assertion) document = refl
approval_erased (Or branches) document = refl
approval_erased (Authorize key policy_ref) document = refl
approval_erased (AuthorizeNv index) document = refl

approved_erased : (within other : ApprovedDoc → List (List Choice)) → ((document : ApprovedDoc) → within (erased_document document) ≡ other document) → (documents : List ApprovedDoc) (number : ℕ) (element : ClosedElement)
    → approved_choices within number element (map erased_document documents) ≡ approved_choices other number element documents
approved_erased within other same [] number element = refl
approved_erased within other same (document ∷ rest) number element =
    ap (λ found. if is_some found then behind (Document number) (within (erased_document document)) ++ approved_choices within (number + 1) element (map erased_document rest) else approved_choices within number element (map erased_document rest)) (approval_erased element document)
    ∙ by (is_some (approval_of element document)) (approved_erased within other same rest (number + 1) element) (approved_erased within other same rest number element)
  where
    by : (b : Bool) → approved_choices within (number + 1) element (map erased_document rest) ≡ approved_choices other (number + 1) element rest → approved_choices within number element (map erased_document rest) ≡ approved_choices other number element rest
        → (if b then behind (Document number) (within (erased_document document)) ++ approved_choices within (number + 1) element (map erased_document rest) else approved_choices within number element (map erased_document rest))
        ≡ (if b then behind (Document number) (other document) ++ approved_choices other (number + 1) element rest else approved_choices other number element rest)
    by true h k =
        ap (λ l. behind (Document number) l ++ approved_choices within (number + 1) element (map erased_document rest)) (same document)
        ∙ ap (λ l. behind (Document number) (other document) ++ l) h
    by false h k = k

document_erased : (documents : List ApprovedDoc) (levels : ℕ) (document : ApprovedDoc) → document_choices (map erased_document documents) levels (erased_document document) ≡ document_choices documents levels document
unfolding document_choices
document_erased documents zero document = refl
document_erased documents (suc levels) document =
    elements_erased (document_choices (map erased_document documents) levels) (document_choices documents levels) (map erased_document documents) documents
    (approved_erased (document_choices (map erased_document documents) levels) (document_choices documents levels) (document_erased documents levels) documents 1) document.closed.elements

pub choices_ignore_boxes : ChoicesIgnoreBoxes
choices_ignore_boxes policy documents =
    elements_erased (document_choices (map erased_document documents) 4) (document_choices documents 4) (map erased_document documents) documents
    (approved_erased (document_choices (map erased_document documents) 4) (document_choices documents 4) (document_erased documents 4) documents 1) policy.elements

-- ---- so are certificates, and what is answered of bytes

pub certificate_erased : (policy : Closed) (approvals : List ApprovedDoc) (position : ℕ) → certificate_bytes (erased policy) (map erased_document approvals) position ≡ certificate_bytes policy approvals position
unfolding certificate_bytes
certificate_erased policy approvals position =
    ap (λ all. certificate_with (slice_get all (position - 1)) (slice_get (paths_of (erased policy) (map erased_document approvals)) (position - 1))) (choices_ignore_boxes policy approvals)
    ∙ ap (λ paths. certificate_with (slice_get (choices_of policy approvals) (position - 1)) (slice_get paths (position - 1))) (paths_ignore_boxes policy approvals)

pub judgement_erased : (policy : Closed) (approvals : List ApprovedDoc) (bytes : List ℕ) → judgement_of (erased policy) (map erased_document approvals) bytes ≡ judgement_of policy approvals bytes
unfolding judgement_of
judgement_erased policy approvals bytes =
    ap (λ all. judgement_on all (paths_of (erased policy) (map erased_document approvals)) (certificate_in bytes)) (choices_ignore_boxes policy approvals)
    ∙ ap (λ paths. judgement_on (choices_of policy approvals) paths (certificate_in bytes)) (paths_ignore_boxes policy approvals)

pub certified_erased : (policy : Closed) (approvals : List ApprovedDoc) (position : ℕ) → HasCertificate policy approvals position → HasCertificate (erased policy) (map erased_document approvals) position
certified_erased policy approvals position h = record {
  bytes = h.bytes;
  spelled = certificate_erased policy approvals position ∙ h.spelled;
  certifies = record {
    choices = h.certifies.choices;
    path = h.certifies.path;
    counted = h.certifies.counted;
    chosen = ap (λ all. slice_get all (position - 1)) (choices_ignore_boxes policy approvals) ∙ h.certifies.chosen;
    is_there = ap (λ paths. slice_get paths (position - 1)) (paths_ignore_boxes policy approvals) ∙ h.certifies.is_there;
    fits = h.certifies.fits;
    spells = h.certifies.spells;
  };
}

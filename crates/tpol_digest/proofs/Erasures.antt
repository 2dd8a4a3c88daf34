-- What digests, paths, extents, strings and well-formedness say of a policy, they say of it wherever its boxes lie.
use Rattle.std.proofs.Common.{◌≡◌, ℕ, zero, suc, ◌+◌, Bool, true, false, List, [], ◌∷◌, ◌++◌, map, Option, Some, None, refl, sym, ap, ◌∙◌, subst}
use Rattle.std.specs.List.{flat_map, AllByRecursion}
use Rattle.std.proofs.lemmas.List.Elements.{All-from_recursion, recursion_from_All}
use Rattle.tpol_base.specs.declared.digest.Digest32.{Digest32}
use Rattle.tpol_tree.specs.declared.closed.Assertion.{Assertion}
use Rattle.tpol_tree.specs.declared.closed.Closed.{Closed}
use Rattle.tpol_tree.specs.declared.closed.ClosedElements.{ClosedElements}
use Rattle.tpol_tree.specs.declared.closed.ClosedElements.TheVariants.{More', End}
use Rattle.tpol_tree.specs.declared.closed.ClosedElement.{ClosedElement}
use Rattle.tpol_tree.specs.declared.closed.ClosedElement.TheVariants.{Assert, Or, Authorize, AuthorizeNv}
use Rattle.tpol_tree.specs.declared.closed.ClosedBranches.{ClosedBranches}
use Rattle.tpol_tree.specs.declared.closed.ClosedBranches.TheVariants.{More' as MoreBranches', End as EndBranches}
use Rattle.tpol_tree.specs.declared.path.ApprovedDoc.{ApprovedDoc}
use Rattle.tpol_tree.specs.declared.path.Move.{Move}
use Rattle.tpol_tree.specs.declared.path.Move.TheVariants.{Or as OrMove}
use Rattle.tpol_tree.specs.declared.path.Path.{Path}
use Rattle.tpol_tree.specs.declared.path.PathStep.TheVariants.{Branch}
use Rattle.tpol_tree.specs.Closed.{ApprovalsLead, ApprovalsLeadBranches, ApprovalsLeadElement, BranchesHaveBranchCounts, EachAssertion, EachAssertionOfBranches, EachAssertionOfElement, ElementHasBranchCounts, HasBranchCounts, IsBranchCount, branch_count}
use Rattle.tpol_tree.specs.ClosedErased.{erased, erased_branches, erased_document, erased_element, erased_elements}
use Rattle.tpol_digest.specs.Digest.{zero_digest, digest_at, digest_at_element, branch_digests, or_digest, policy_digest}
use Rattle.tpol_digest.specs.Extent.{FullExtent, both, either, extent_at, extent_at_branches, extent_at_element, longer}
use Rattle.tpol_digest.specs.Inputs.{inputs_at, inputs_at_element, inputs_at_branches, strings_of}
use Rattle.tpol_digest.specs.Laws.{DigestsIgnoreBoxes, InputsIgnoreBoxes, PathsIgnoreBoxes, WellFormedIgnoresBoxes, BranchCountsIgnoreBoxes}
use Rattle.tpol_digest.specs.Paths.{approval_of, approved_paths, between, document_paths, outside_paths, paths_at, paths_at_branches, paths_at_element, paths_by_approval, paths_of, product}
use Rattle.tpol_digest.specs.Update.{update_of_or}
use Rattle.tpol_digest.specs.WellFormed.{HasPcrDigest, IsWellFormedDocument, IsWellFormedPolicy}

-- ---- digests

mutual
  pub digest_at-erased : (elements : ClosedElements) (d : Digest32) → digest_at (erased_elements elements) d ≡ digest_at elements d
  digest_at-erased End d = refl
  digest_at-erased (More' p element q rest) d =
      digest_at-erased rest (digest_at_element (erased_element element) d)
      ∙ ap (digest_at rest) (digest_at_element-erased element d)

  pub digest_at_element-erased : (element : ClosedElement) (d : Digest32) → digest_at_element (erased_element element) d ≡ digest_at_element element d
  digest_at_element-erased (Assert assertion) d = refl
  digest_at_element-erased (Or branches) d = ap or_digest (branch_digests-erased branches d)
  digest_at_element-erased (Authorize key policy_ref) d = refl
  digest_at_element-erased (AuthorizeNv index) d = refl

  pub branch_digests-erased : (branches : ClosedBranches) (d : Digest32) → branch_digests (erased_branches branches) d ≡ branch_digests branches d
  branch_digests-erased EndBranches d = refl
  branch_digests-erased (MoreBranches' p name elements q rest) d =
      ap (λ first. first ∷ branch_digests (erased_branches rest) d) (digest_at-erased elements d)
      ∙ ap (λ others. digest_at elements d ∷ others) (branch_digests-erased rest d)

pub policy_digest-erased : (policy : Closed) → policy_digest (erased policy) ≡ policy_digest policy
policy_digest-erased policy = digest_at-erased policy.elements zero_digest

pub digests_ignore_boxes : DigestsIgnoreBoxes
digests_ignore_boxes policy = policy_digest-erased policy

-- ---- extents

module _ (within : Option (ApprovedDoc → FullExtent)) (documents : List ApprovedDoc) where
  mutual
    extent_at-erased : (elements : ClosedElements) → extent_at within documents (erased_elements elements) ≡ extent_at within documents elements
    extent_at-erased End = refl
    extent_at-erased (More' p element q rest) =
        ap (λ first. both first (extent_at within documents (erased_elements rest))) (extent_at_element-erased element)
        ∙ ap (both (extent_at_element within documents element)) (extent_at-erased rest)

    extent_at_element-erased : (element : ClosedElement) → extent_at_element within documents (erased_element element) ≡ extent_at_element within documents element
    extent_at_element-erased (Assert assertion) = refl
    extent_at_element-erased (Or branches) = extent_at_branches-erased branches
    extent_at_element-erased (Authorize key policy_ref) = refl
    extent_at_element-erased (AuthorizeNv index) = refl

    pub extent_at_branches-erased : (branches : ClosedBranches) → extent_at_branches within documents (erased_branches branches) ≡ extent_at_branches within documents branches
    extent_at_branches-erased EndBranches = refl
    extent_at_branches-erased (MoreBranches' p name elements q rest) =
        ap (λ first. either (longer first) (extent_at_branches within documents (erased_branches rest))) (extent_at-erased elements)
        ∙ ap (either (longer (extent_at within documents elements))) (extent_at_branches-erased rest)

-- ---- paths, where two lists of documents are entered alike

module _ (within other : ApprovedDoc → List Path) (documents others : List ApprovedDoc) (alike : (element : ClosedElement) → approved_paths within documents element ≡ approved_paths other others element) where
  mutual
    pub paths_at-erased : (elements : ClosedElements) (d : Digest32) → paths_at within documents (erased_elements elements) d ≡ paths_at other others elements d
    paths_at-erased End d = refl
    paths_at-erased (More' p element q rest) d =
        ap (λ firsts. product firsts (paths_at within documents (erased_elements rest) (digest_at_element (erased_element element) d))) (paths_at_element-erased element d)
        ∙ ap (product (paths_at_element other others element d))
        (paths_at-erased rest (digest_at_element (erased_element element) d)
        ∙ ap (paths_at other others rest) (digest_at_element-erased element d))

    paths_at_element-erased : (element : ClosedElement) (d : Digest32) → paths_at_element within documents (erased_element element) d ≡ paths_at_element other others element d
    paths_at_element-erased (Assert assertion) d = refl
    paths_at_element-erased (Or branches) d =
        ap (λ digests. paths_at_branches within documents (erased_branches branches) 1 (OrMove digests) d) (branch_digests-erased branches d)
        ∙ paths_at_branches-erased branches 1 (OrMove (branch_digests branches d)) d
    paths_at_element-erased (Authorize key policy_ref) d =
        ap (λ l. l ++ outside_paths (Authorize key policy_ref)) (alike (Authorize key policy_ref))
    paths_at_element-erased (AuthorizeNv index) d =
        ap (λ l. l ++ outside_paths (AuthorizeNv index)) (alike (AuthorizeNv index))

    paths_at_branches-erased : (branches : ClosedBranches) (position : ℕ) (act : Move) (d : Digest32) → paths_at_branches within documents (erased_branches branches) position act d ≡ paths_at_branches other others branches position act d
    paths_at_branches-erased EndBranches position act d = refl
    paths_at_branches-erased (MoreBranches' p name elements q rest) position act d =
        ap (λ paths. map (between (Branch position name) act) paths ++ paths_at_branches within documents (erased_branches rest) (position + 1) act d) (paths_at-erased elements d)
        ∙ ap (λ l. map (between (Branch position name) act) (paths_at other others elements d) ++ l) (paths_at_branches-erased rest (position + 1) act d)

-- the same documents
pub paths_of-erased : (policy : Closed) (documents : List ApprovedDoc) → paths_of (erased policy) documents ≡ paths_of policy documents
paths_of-erased policy documents =
    paths_at-erased (document_paths documents 4) (document_paths documents 4) documents documents (λ _. refl) policy.elements zero_digest

-- erased documents
approval_of-erased : (element : ClosedElement) (document : ApprovedDoc) → approval_of element (erased_document document) ≡ approval_of element document
approval_of-erased (Assert assertion) document = refl
approval_of-erased (Or branches) document = refl
approval_of-erased (Authorize key policy_ref) document = refl
approval_of-erased (AuthorizeNv index) document = refl

by_approval-erased : (found : Option Move) (document : ApprovedDoc) (paths : List Path) → paths_by_approval found (erased_document document) paths ≡ paths_by_approval found document paths
by_approval-erased None document paths = refl
by_approval-erased (Some act) document paths = refl

approved_paths-erased : (within other : ApprovedDoc → List Path) → ((document : ApprovedDoc) → within (erased_document document) ≡ other document) → (documents : List ApprovedDoc) (element : ClosedElement) → approved_paths within (map erased_document documents) element ≡ approved_paths other documents element
approved_paths-erased within other same [] element = refl
approved_paths-erased within other same (document ∷ rest) element =
    ap (λ l. l ++ approved_paths within (map erased_document rest) element)
    (ap (λ found. paths_by_approval found (erased_document document) (within (erased_document document))) (approval_of-erased element document)
    ∙ by_approval-erased (approval_of element document) document (within (erased_document document))
    ∙ ap (paths_by_approval (approval_of element document) document) (same document))
    ∙ ap (λ l. paths_by_approval (approval_of element document) document (other document) ++ l) (approved_paths-erased within other same rest element)

document_paths-erased : (documents : List ApprovedDoc) (levels : ℕ) (document : ApprovedDoc) → document_paths (map erased_document documents) levels (erased_document document) ≡ document_paths documents levels document
unfolding document_paths
document_paths-erased documents zero document = refl
document_paths-erased documents (suc levels) document =
    paths_at-erased (document_paths (map erased_document documents) levels) (document_paths documents levels) (map erased_document documents) documents (approved_paths-erased (document_paths (map erased_document documents) levels) (document_paths documents levels) (document_paths-erased documents levels) documents) document.closed.elements zero_digest

pub paths_ignore_boxes : PathsIgnoreBoxes
paths_ignore_boxes policy documents =
    paths_at-erased (document_paths (map erased_document documents) 4) (document_paths documents 4) (map erased_document documents) documents (approved_paths-erased (document_paths (map erased_document documents) 4) (document_paths documents 4) (document_paths-erased documents 4) documents) policy.elements zero_digest

-- ---- strings

mutual
  inputs_at-erased : (elements : ClosedElements) (d : Digest32) → inputs_at (erased_elements elements) d ≡ inputs_at elements d
  inputs_at-erased End d = refl
  inputs_at-erased (More' p element q rest) d =
      ap (λ l. l ++ inputs_at (erased_elements rest) (digest_at_element (erased_element element) d)) (inputs_at_element-erased element d)
      ∙ ap (λ l. inputs_at_element element d ++ l)
      (inputs_at-erased rest (digest_at_element (erased_element element) d)
      ∙ ap (inputs_at rest) (digest_at_element-erased element d))

  inputs_at_element-erased : (element : ClosedElement) (d : Digest32) → inputs_at_element (erased_element element) d ≡ inputs_at_element element d
  inputs_at_element-erased (Assert assertion) d = refl
  inputs_at_element-erased (Or branches) d =
      ap (λ l. l ++ strings_of (update_of_or (branch_digests (erased_branches branches) d)) d) (inputs_at_branches-erased branches d)
      ∙ ap (λ digests. inputs_at_branches branches d ++ strings_of (update_of_or digests) d) (branch_digests-erased branches d)
  inputs_at_element-erased (Authorize key policy_ref) d = refl
  inputs_at_element-erased (AuthorizeNv index) d = refl

  inputs_at_branches-erased : (branches : ClosedBranches) (d : Digest32) → inputs_at_branches (erased_branches branches) d ≡ inputs_at_branches branches d
  inputs_at_branches-erased EndBranches d = refl
  inputs_at_branches-erased (MoreBranches' p name elements q rest) d =
      ap (λ l. l ++ inputs_at_branches (erased_branches rest) d) (inputs_at-erased elements d)
      ∙ ap (λ l. inputs_at elements d ++ l) (inputs_at_branches-erased rest d)

inputs_of_documents-erased : (documents : List ApprovedDoc) → flat_map (λ document. inputs_at document.closed.elements zero_digest) (map erased_document documents) ≡ flat_map (λ document. inputs_at document.closed.elements zero_digest) documents
inputs_of_documents-erased [] = refl
inputs_of_documents-erased (document ∷ rest) =
    ap (λ l. l ++ flat_map (λ x. inputs_at x.closed.elements zero_digest) (map erased_document rest)) (inputs_at-erased document.closed.elements zero_digest)
    ∙ ap (λ l. inputs_at document.closed.elements zero_digest ++ l) (inputs_of_documents-erased rest)

pub inputs_ignore_boxes : InputsIgnoreBoxes
inputs_ignore_boxes policy documents =
    ap (λ l. l ++ flat_map (λ document. inputs_at document.closed.elements zero_digest) (map erased_document documents)) (inputs_at-erased policy.elements zero_digest)
    ∙ ap (λ l. inputs_at policy.elements zero_digest ++ l) (inputs_of_documents-erased documents)

-- ---- facts: a fact of an erased policy is the same fact

mutual
  lead_same : (leads : Bool) (elements : ClosedElements) → ApprovalsLead leads (erased_elements elements) ≡ ApprovalsLead leads elements
  lead_same leads End = refl
  lead_same leads (More' p element q rest) = λ i. (lead_element_same leads element i) × (lead_same false rest i)

  lead_element_same : (leads : Bool) (element : ClosedElement) → ApprovalsLeadElement leads (erased_element element) ≡ ApprovalsLeadElement leads element
  lead_element_same leads (Assert assertion) = refl
  lead_element_same leads (Or branches) = lead_branches_same leads branches
  lead_element_same leads (Authorize key policy_ref) = refl
  lead_element_same leads (AuthorizeNv index) = refl

  lead_branches_same : (leads : Bool) (branches : ClosedBranches) → ApprovalsLeadBranches leads (erased_branches branches) ≡ ApprovalsLeadBranches leads branches
  lead_branches_same leads EndBranches = refl
  lead_branches_same leads (MoreBranches' p name elements q rest) =
      λ i. (lead_same leads elements i) × (lead_branches_same leads rest i)

mutual
  each_same : (P : Assertion → Type 0) (elements : ClosedElements) → EachAssertion P (erased_elements elements) ≡ EachAssertion P elements
  each_same P End = refl
  each_same P (More' p element q rest) = λ i. (each_element_same P element i) × (each_same P rest i)

  each_element_same : (P : Assertion → Type 0) (element : ClosedElement) → EachAssertionOfElement P (erased_element element) ≡ EachAssertionOfElement P element
  each_element_same P (Assert assertion) = refl
  each_element_same P (Or branches) = each_branches_same P branches
  each_element_same P (Authorize key policy_ref) = refl
  each_element_same P (AuthorizeNv index) = refl

  each_branches_same : (P : Assertion → Type 0) (branches : ClosedBranches) → EachAssertionOfBranches P (erased_branches branches) ≡ EachAssertionOfBranches P branches
  each_branches_same P EndBranches = refl
  each_branches_same P (MoreBranches' p name elements q rest) =
      λ i. (each_same P elements i) × (each_branches_same P rest i)

branch_count-erased : (branches : ClosedBranches) → branch_count (erased_branches branches) ≡ branch_count branches
branch_count-erased EndBranches = refl
branch_count-erased (MoreBranches' p name elements q rest) = ap (λ n. n + 1) (branch_count-erased rest)

mutual
  counts_same : (elements : ClosedElements) → HasBranchCounts (erased_elements elements) ≡ HasBranchCounts elements
  counts_same End = refl
  counts_same (More' p element q rest) = λ i. (counts_element_same element i) × (counts_same rest i)

  counts_element_same : (element : ClosedElement) → ElementHasBranchCounts (erased_element element) ≡ ElementHasBranchCounts element
  counts_element_same (Assert assertion) = refl
  counts_element_same (Or branches) =
      λ i. (IsBranchCount (branch_count-erased branches i)) × (counts_branches_same branches i)
  counts_element_same (Authorize key policy_ref) = refl
  counts_element_same (AuthorizeNv index) = refl

  counts_branches_same : (branches : ClosedBranches) → BranchesHaveBranchCounts (erased_branches branches) ≡ BranchesHaveBranchCounts branches
  counts_branches_same EndBranches = refl
  counts_branches_same (MoreBranches' p name elements q rest) =
      λ i. (counts_same elements i) × (counts_branches_same rest i)

-- what holds of the erased policy holds of the policy, and the other way
along : (P Q : Type 0) → P ≡ Q → P → Q
along P Q e h = subst (λ (T : Type 0). T) e h

pub lead-erased : (leads : Bool) (elements : ClosedElements) → ApprovalsLead leads (erased_elements elements) → ApprovalsLead leads elements
lead-erased leads elements h = along (ApprovalsLead leads (erased_elements elements)) (ApprovalsLead leads elements) (lead_same leads elements) h

pub each-erased : (P : Assertion → Type 0) (elements : ClosedElements) → EachAssertion P (erased_elements elements) → EachAssertion P elements
each-erased P elements h = along (EachAssertion P (erased_elements elements)) (EachAssertion P elements) (each_same P elements) h

pub counts-erased : (elements : ClosedElements) → HasBranchCounts (erased_elements elements) → HasBranchCounts elements
counts-erased elements h = along (HasBranchCounts (erased_elements elements)) (HasBranchCounts elements) (counts_same elements) h

policy_same : (policy : Closed) → IsWellFormedPolicy (erased policy) → IsWellFormedPolicy policy
policy_same policy h = record {
  approvals_lead = lead-erased true policy.elements h.approvals_lead;
  pcr_digests = each-erased HasPcrDigest policy.elements h.pcr_digests;
}

policy_back : (policy : Closed) → IsWellFormedPolicy policy → IsWellFormedPolicy (erased policy)
policy_back policy h = record {
  approvals_lead = along (ApprovalsLead true policy.elements) (ApprovalsLead true (erased_elements policy.elements)) (sym (lead_same true policy.elements)) h.approvals_lead;
  pcr_digests = along (EachAssertion HasPcrDigest policy.elements) (EachAssertion HasPcrDigest (erased_elements policy.elements)) (sym (each_same HasPcrDigest policy.elements)) h.pcr_digests;
}

document_same : (document : ApprovedDoc) → IsWellFormedDocument (erased_document document) → IsWellFormedDocument document
document_same document h = record { policy = policy_same document.closed h.policy; digest = h.digest ∙ policy_digest-erased document.closed }

document_back : (document : ApprovedDoc) → IsWellFormedDocument document → IsWellFormedDocument (erased_document document)
document_back document h = record { policy = policy_back document.closed h.policy; digest = h.digest ∙ sym (policy_digest-erased document.closed) }

documents_same : (documents : List ApprovedDoc) → AllByRecursion IsWellFormedDocument (map erased_document documents) → AllByRecursion IsWellFormedDocument documents
documents_same [] h = tt
documents_same (document ∷ rest) h = (document_same document h.0, documents_same rest h.1)

documents_back : (documents : List ApprovedDoc) → AllByRecursion IsWellFormedDocument documents → AllByRecursion IsWellFormedDocument (map erased_document documents)
documents_back [] h = tt
documents_back (document ∷ rest) h = (document_back document h.0, documents_back rest h.1)

pub well_formed_ignores_boxes : WellFormedIgnoresBoxes
well_formed_ignores_boxes policy documents = (
  λ h. record {
    policy_itself = policy_same policy h.policy_itself;
    documents = All-from_recursion IsWellFormedDocument documents (documents_same documents (recursion_from_All IsWellFormedDocument (map erased_document documents) h.documents));
  },
  λ h. record {
    policy_itself = policy_back policy h.policy_itself;
    documents = All-from_recursion IsWellFormedDocument (map erased_document documents) (documents_back documents (recursion_from_All IsWellFormedDocument documents h.documents));
  },
)

-- ---- how many branches there are

abbrev HasCounts : ApprovedDoc → Type 0
HasCounts document = HasBranchCounts document.closed.elements

counts-back : (elements : ClosedElements) → HasBranchCounts elements → HasBranchCounts (erased_elements elements)
counts-back elements h = along (HasBranchCounts elements) (HasBranchCounts (erased_elements elements)) (sym (counts_same elements)) h

counts_in : (documents : List ApprovedDoc) → AllByRecursion HasCounts (map erased_document documents) → AllByRecursion HasCounts documents
counts_in [] h = tt
counts_in (document ∷ rest) h = (counts-erased document.closed.elements h.0, counts_in rest h.1)

counts_in_erased : (documents : List ApprovedDoc) → AllByRecursion HasCounts documents → AllByRecursion HasCounts (map erased_document documents)
counts_in_erased [] h = tt
counts_in_erased (document ∷ rest) h = (counts-back document.closed.elements h.0, counts_in_erased rest h.1)

pub branch_counts_ignore_boxes : BranchCountsIgnoreBoxes
branch_counts_ignore_boxes policy documents = (
  λ h. record {
    policy_itself = counts-erased policy.elements h.policy_itself;
    documents = All-from_recursion HasCounts documents (counts_in documents (recursion_from_All HasCounts (map erased_document documents) h.documents));
  },
  λ h. record {
    policy_itself = counts-back policy.elements h.policy_itself;
    documents = All-from_recursion HasCounts (map erased_document documents) (counts_in_erased documents (recursion_from_All HasCounts documents h.documents));
  },
)

-- What holds of each move of each path, where it holds of the elements.
use Rattle.std.proofs.Common.{◌≡◌, ℕ, zero, suc, ◌+◌, List, [], ◌∷◌, map, length, Option, Some, None, refl, arith}
use Rattle.std.specs.Prelude.{⊤, All, IfSome}
use Rattle.std.specs.List.{AllByRecursion}
use Rattle.std.proofs.lemmas.List.Elements.{All-from_recursion, recursion_from_All}
use Rattle.tpol_base.specs.declared.digest.Digest32.{Digest32}
use Rattle.tpol_base.specs.declared.name.Name.{Name}
use Rattle.tpol_tree.specs.declared.closed.Assertion.{Assertion}
use Rattle.tpol_tree.specs.declared.closed.Closed.{Closed}
use Rattle.tpol_tree.specs.declared.closed.ClosedElements.{ClosedElements}
use Rattle.tpol_tree.specs.declared.closed.ClosedElements.TheVariants.{More', End}
use Rattle.tpol_tree.specs.declared.closed.ClosedElement.{ClosedElement}
use Rattle.tpol_tree.specs.declared.closed.ClosedElement.TheVariants.{Assert, Or, Authorize, AuthorizeNv}
use Rattle.tpol_tree.specs.declared.closed.ClosedBranches.{ClosedBranches}
use Rattle.tpol_tree.specs.declared.closed.ClosedBranches.TheVariants.{More' as MoreBranches', End as EndBranches}
use Rattle.tpol_tree.specs.declared.path.ApprovedDoc.{ApprovedDoc}
use Rattle.tpol_tree.specs.declared.path.Move.{Move}
use Rattle.tpol_tree.specs.declared.path.Move.TheVariants.{Assert as AssertMove, Or as OrMove, Approve, ApproveNv}
use Rattle.tpol_tree.specs.declared.path.Path.{Path}
use Rattle.tpol_tree.specs.declared.path.PathStep.{PathStep}
use Rattle.tpol_tree.specs.declared.path.PathStep.TheVariants.{Branch, Document}
use Rattle.tpol_tree.specs.Bounds.{ClosedElementHasBounds, HasClosedBounds}
use Rattle.tpol_tree.specs.Closed.{EachAssertion, EachAssertionOfElement, EachAssertionOfBranches, EachElement, EachElementWithin, EachElementOfBranches, HasBranchCounts, ElementHasBranchCounts, BranchesHaveBranchCounts, IsBranchCount, branch_count}
use Rattle.tpol_digest.specs.Digest.{zero_digest, digest_at_element, branch_digests}
use Rattle.tpol_digest.specs.Laws.{MoveHasPcrDigest, PathsHavePcrDigests, MoveHasBounds, PathsHaveBounds}
use Rattle.tpol_digest.specs.Paths.{followed_by, between, approval_of, paths_by_approval, approved_paths, outside_paths, paths_at, paths_at_element, paths_at_branches, document_paths, paths_of}
use Rattle.tpol_digest.specs.WellFormed.{HasPcrDigest, IsWellFormedDocument}
use Rattle.tpol_digest.proofs.Meeting.{by_key_each, by_index_each}
use Rattle.tpol_digest.proofs.Products.{Each-append, Each-map, Each-flat_map, Each-product}

module _ (P : ClosedElement → Type 0) (R : Move → Type 0) (of_assertion : (assertion : Assertion) → P (Assert assertion) → R (AssertMove assertion)) (of_or : (branches : ClosedBranches) (d : Digest32) → P (Or branches) → R (OrMove (branch_digests branches d))) (of_approval : (key : Name) (policy_ref : List ℕ) (approved signature : Digest32) → P (Authorize key policy_ref) → R (Approve key policy_ref approved signature)) (of_index : (index : Name) (approved : Digest32) → P (AuthorizeNv index) → R (ApproveNv index approved)) where
  abbrev Good : Path → Type 0
  Good p = AllByRecursion R p.moves

  followed_good : (p q : Path) → Good p → Good q → Good (followed_by p q)
  followed_good p q h k = Each-append R p.moves q.moves h k

  between_good : (step : PathStep) (act : Move) → R act → (p : Path) → Good p → Good (between step act p)
  between_good step act r p h = Each-append R p.moves (act ∷ []) h (r, tt)

  module _ (within : ApprovedDoc → List Path) (documents : List ApprovedDoc) (good_within : AllByRecursion (λ document. AllByRecursion Good (within document)) documents) where
    approved_good : (element : ClosedElement) → ((document : ApprovedDoc) → IfSome (approval_of element document) R) → AllByRecursion Good (approved_paths within documents element)
    approved_good element each =
        Each-flat_map (λ document. AllByRecursion Good (within document)) Good (λ document. paths_by_approval (approval_of element document) document (within document)) documents (λ document paths. one document (approval_of element document) (each document) paths) good_within
      where
        one : (document : ApprovedDoc) (found : Option Move) → IfSome found R → AllByRecursion Good (within document) → AllByRecursion Good (paths_by_approval found document (within document))
        one document None r paths = tt
        one document (Some act) r paths =
            Each-map Good Good (between (Document document.document) act) (within document) (between_good (Document document.document) act r) paths

    mutual
      paths_at_good : (elements : ClosedElements) (d : Digest32) → EachElement P elements → AllByRecursion Good (paths_at within documents elements d)
      paths_at_good End d h = (tt, tt)
      paths_at_good (More' p element q rest) d h =
          Each-product Good Good Good (paths_at_element within documents element d) (paths_at within documents rest (digest_at_element element d)) followed_good (paths_at_element_good element d h.0) (paths_at_good rest (digest_at_element element d) h.1)

      paths_at_element_good : (element : ClosedElement) (d : Digest32) → EachElementWithin P element → AllByRecursion Good (paths_at_element within documents element d)
      paths_at_element_good (Assert assertion) d h = ((of_assertion assertion h, tt), tt)
      paths_at_element_good (Or branches) d h =
          paths_at_branches_good branches 1 (OrMove (branch_digests branches d)) d (of_or branches d h.0) h.1
      paths_at_element_good (Authorize key policy_ref) d h =
          Each-append Good (approved_paths within documents (Authorize key policy_ref)) (outside_paths (Authorize key policy_ref)) (approved_good (Authorize key policy_ref) (λ document. by_key_each R key policy_ref document.digest document.by (λ signature. of_approval key policy_ref document.digest signature h))) ((of_approval key policy_ref zero_digest zero_digest h, tt), tt)
      paths_at_element_good (AuthorizeNv index) d h =
          Each-append Good (approved_paths within documents (AuthorizeNv index)) (outside_paths (AuthorizeNv index)) (approved_good (AuthorizeNv index) (λ document. by_index_each R index document.digest document.by (of_index index document.digest h))) ((of_index index zero_digest h, tt), tt)

      paths_at_branches_good : (branches : ClosedBranches) (position : ℕ) (act : Move) (d : Digest32) → R act → EachElementOfBranches P branches → AllByRecursion Good (paths_at_branches within documents branches position act d)
      paths_at_branches_good EndBranches position act d r h = tt
      paths_at_branches_good (MoreBranches' p name elements q rest) position act d r h =
          Each-append Good (map (between (Branch position name) act) (paths_at within documents elements d)) (paths_at_branches within documents rest (position + 1) act d) (Each-map Good Good (between (Branch position name) act) (paths_at within documents elements d) (between_good (Branch position name) act r) (paths_at_good elements d h.0)) (paths_at_branches_good rest (position + 1) act d r h.1)

  documents_good : (documents : List ApprovedDoc) → AllByRecursion (λ document. EachElement P document.closed.elements) documents → (levels : ℕ) → AllByRecursion (λ document. AllByRecursion Good (document_paths documents levels document)) documents
  unfolding document_paths
  documents_good documents each zero = none documents
    where
      none : (some : List ApprovedDoc) → AllByRecursion (λ document. AllByRecursion Good (document_paths documents zero document)) some
      none [] = tt
      none (document ∷ rest) = (tt, none rest)
  documents_good documents each (suc levels) = all (documents_good documents each levels) documents each
    where
      all : AllByRecursion (λ document. AllByRecursion Good (document_paths documents levels document)) documents → (some : List ApprovedDoc) → AllByRecursion (λ document. EachElement P document.closed.elements) some → AllByRecursion (λ document. AllByRecursion Good (document_paths documents (suc levels) document)) some
      all before [] h = tt
      all before (document ∷ rest) h =
          (paths_at_good (document_paths documents levels) documents before document.closed.elements zero_digest h.0, all before rest h.1)

  each_all : (paths : List Path) → AllByRecursion Good paths → AllByRecursion (λ path. All R path.moves) paths
  each_all [] h = tt
  each_all (path ∷ rest) h = (All-from_recursion R path.moves h.0, each_all rest h.1)

  pub paths_of_good : (policy : Closed) (documents : List ApprovedDoc) → EachElement P policy.elements → AllByRecursion (λ document. EachElement P document.closed.elements) documents → All (λ path. All R path.moves) (paths_of policy documents)
  paths_of_good policy documents h each =
      All-from_recursion (λ path. All R path.moves) (paths_of policy documents) (each_all (paths_of policy documents) (paths_at_good (document_paths documents 4) documents (documents_good documents each 4) policy.elements zero_digest h))

-- ---- PCR assertions

abbrev OfAssertion : (Assertion → Type 0) → ClosedElement → Type 0
OfAssertion Q (Assert assertion) = Q assertion
OfAssertion Q _ = ⊤

mutual
  each_assertion : (Q : Assertion → Type 0) (elements : ClosedElements) → EachAssertion Q elements → EachElement (OfAssertion Q) elements
  each_assertion Q End h = tt
  each_assertion Q (More' p element q rest) h = (each_assertion_within Q element h.0, each_assertion Q rest h.1)

  each_assertion_within : (Q : Assertion → Type 0) (element : ClosedElement) → EachAssertionOfElement Q element → EachElementWithin (OfAssertion Q) element
  each_assertion_within Q (Assert assertion) h = h
  each_assertion_within Q (Or branches) h = (tt, each_assertion_of_branches Q branches h)
  each_assertion_within Q (Authorize key policy_ref) h = tt
  each_assertion_within Q (AuthorizeNv index) h = tt

  each_assertion_of_branches : (Q : Assertion → Type 0) (branches : ClosedBranches) → EachAssertionOfBranches Q branches → EachElementOfBranches (OfAssertion Q) branches
  each_assertion_of_branches Q EndBranches h = tt
  each_assertion_of_branches Q (MoreBranches' p name elements q rest) h =
      (each_assertion Q elements h.0, each_assertion_of_branches Q rest h.1)

each_document : (documents : List ApprovedDoc) → AllByRecursion IsWellFormedDocument documents → AllByRecursion (λ document. EachElement (OfAssertion HasPcrDigest) document.closed.elements) documents
each_document [] h = tt
each_document (document ∷ rest) h =
    (each_assertion HasPcrDigest document.closed.elements h.0.policy.pcr_digests, each_document rest h.1)

pub paths_have_pcr_digests : PathsHavePcrDigests
paths_have_pcr_digests policy documents well =
    paths_of_good (OfAssertion HasPcrDigest) MoveHasPcrDigest (λ assertion h. h) (λ branches d h. tt) (λ key policy_ref approved signature h. tt) (λ index approved h. tt) policy documents (each_assertion HasPcrDigest policy.elements well.policy_itself.pcr_digests) (each_document documents (recursion_from_All IsWellFormedDocument documents well.documents))

-- ---- the bounds of the wire

branch_digests_count : (branches : ClosedBranches) (d : Digest32) → length (branch_digests branches d) ≡ branch_count branches
branch_digests_count EndBranches d = refl
branch_digests_count (MoreBranches' p name elements q rest) d = let others = branch_digests_count rest d in omega arith

-- the bounds of an element's fields, and the number of an OR's branches
abbrev Bounded : ClosedElement → Type 0
Bounded (Or branches) = IsBranchCount (branch_count branches)
Bounded element = ClosedElementHasBounds element

mutual
  each_bounded : (elements : ClosedElements) → HasBranchCounts elements → EachElement ClosedElementHasBounds elements → EachElement Bounded elements
  each_bounded End h k = tt
  each_bounded (More' p element q rest) h k = (each_bounded_within element h.0 k.0, each_bounded rest h.1 k.1)

  each_bounded_within : (element : ClosedElement) → ElementHasBranchCounts element → EachElementWithin ClosedElementHasBounds element → EachElementWithin Bounded element
  each_bounded_within (Assert assertion) h k = k
  each_bounded_within (Or branches) h k = (h.0, each_bounded_of_branches branches h.1 k.1)
  each_bounded_within (Authorize key policy_ref) h k = k
  each_bounded_within (AuthorizeNv index) h k = k

  each_bounded_of_branches : (branches : ClosedBranches) → BranchesHaveBranchCounts branches → EachElementOfBranches ClosedElementHasBounds branches → EachElementOfBranches Bounded branches
  each_bounded_of_branches EndBranches h k = tt
  each_bounded_of_branches (MoreBranches' p name elements q rest) h k =
      (each_bounded elements h.0 k.0, each_bounded_of_branches rest h.1 k.1)

each_document_bounded : (documents : List ApprovedDoc) → AllByRecursion (λ document. HasBranchCounts document.closed.elements) documents → AllByRecursion (λ document. HasClosedBounds document.closed) documents → AllByRecursion (λ document. EachElement Bounded document.closed.elements) documents
each_document_bounded [] h k = tt
each_document_bounded (document ∷ rest) h k =
    (each_bounded document.closed.elements h.0 k.0, each_document_bounded rest h.1 k.1)

of_or_bounded : (branches : ClosedBranches) (d : Digest32) → IsBranchCount (branch_count branches) → MoveHasBounds (OrMove (branch_digests branches d))
of_or_bounded branches d h = let n = branch_digests_count branches d in (omega (arith, h.0), omega (arith, h.1))

pub paths_have_bounds : PathsHaveBounds
paths_have_bounds policy documents counts bounds each =
    paths_of_good Bounded MoveHasBounds (λ assertion h. h) of_or_bounded (λ key policy_ref approved signature h. h) (λ index approved h. h) policy documents (each_bounded policy.elements counts.policy_itself bounds) (each_document_bounded documents (recursion_from_All (λ document. HasBranchCounts document.closed.elements) documents counts.documents) (recursion_from_All (λ document. HasClosedBounds document.closed) documents each))

-- Each PolicyPCR of a written path has the digest of the values that the policy writes.
use Rattle.std.proofs.Common.{ℕ, zero, suc, ◌+◌, List, [], ◌∷◌, ◌++◌, map, Option, Some, None, IfSome}
use Rattle.std.specs.Prelude.{⊤}
use Rattle.std.specs.List.{AllByRecursion}
use Rattle.std.proofs.lemmas.List.Elements.{recursion_from_All}
use Rattle.tpol_base.specs.declared.digest.Digest32.{Digest32}
use Rattle.tpol_digest.proofs.Meeting.{by_index_each, by_key_each}
use Rattle.tpol_digest.proofs.Products.{Each-append, Each-flat_map, Each-map, Each-product}
use Rattle.tpol_digest.specs.Digest.{branch_digests, digest_at_element, zero_digest}
use Rattle.tpol_digest.specs.Paths.{approval_of, approved_paths, between, document_paths, followed_by, paths_at, paths_at_branches, paths_at_element, paths_by_approval, paths_of}
use Rattle.tpol_digest.specs.WellFormed.{HasPcrDigest, IsWellFormed, IsWellFormedDocument}
use Rattle.tpol_tree.specs.Closed.{EachAssertion, EachAssertionOfBranches, EachAssertionOfElement}
use Rattle.tpol_tree.specs.declared.closed.Closed.{Closed}
use Rattle.tpol_tree.specs.declared.closed.ClosedBranches.{ClosedBranches}
use Rattle.tpol_tree.specs.declared.closed.ClosedBranches.TheVariants.{More' as MoreBranches', End as EndBranches}
use Rattle.tpol_tree.specs.declared.closed.ClosedElement.{ClosedElement}
use Rattle.tpol_tree.specs.declared.closed.ClosedElement.TheVariants.{Assert, Or, Authorize, AuthorizeNv}
use Rattle.tpol_tree.specs.declared.closed.ClosedElements.{ClosedElements}
use Rattle.tpol_tree.specs.declared.closed.ClosedElements.TheVariants.{More', End}
use Rattle.tpol_tree.specs.declared.path.ApprovedDoc.{ApprovedDoc}
use Rattle.tpol_tree.specs.declared.path.Move.{Move}
use Rattle.tpol_tree.specs.declared.path.Move.TheVariants.{Assert as AssertMove, Or as OrMove}
use Rattle.tpol_tree.specs.declared.path.Path.{Path}
use Rattle.tpol_tree.specs.declared.path.PathStep.TheVariants.{Branch, Document}

-- a move that is a PolicyPCR has the digest of its values
abbrev pub HasMoveDigest : Move → Type 0
HasMoveDigest (AssertMove assertion) = HasPcrDigest assertion
HasMoveDigest _ = ⊤

abbrev pub HasDigests : Path → Type 0
HasDigests path = AllByRecursion HasMoveDigest path.moves

followed_has : (p q : Path) → HasDigests p → HasDigests q → HasDigests (followed_by p q)
followed_has p q h k = Each-append HasMoveDigest p.moves q.moves h k

before_move : (act : Move) (moves : List Move) → HasMoveDigest act → AllByRecursion HasMoveDigest moves → AllByRecursion HasMoveDigest (moves ++ act ∷ [])
before_move act moves has h = Each-append HasMoveDigest moves (act ∷ []) h (has, tt)

module _ (within : ApprovedDoc → List Path) (documents : List ApprovedDoc) (within_have : AllByRecursion (λ document. AllByRecursion HasDigests (within document)) documents) where
  approved_have : (element : ClosedElement) → ((document : ApprovedDoc) → IfSome (approval_of element document) HasMoveDigest) → AllByRecursion HasDigests (approved_paths within documents element)
  approved_have element h =
      Each-flat_map (λ document. AllByRecursion HasDigests (within document)) HasDigests (λ document. paths_by_approval (approval_of element document) document (within document)) documents (λ document paths. one document (approval_of element document) (h document) paths) within_have
    where
      one : (document : ApprovedDoc) (found : Option Move) → IfSome found HasMoveDigest → AllByRecursion HasDigests (within document) → AllByRecursion HasDigests (paths_by_approval found document (within document))
      one document None k paths = tt
      one document (Some act) k paths =
          Each-map HasDigests HasDigests (between (Document document.document) act) (within document) (λ p h. before_move act p.moves k h) paths

  mutual
    pub paths_have : (elements : ClosedElements) (d : Digest32) → EachAssertion HasPcrDigest elements → AllByRecursion HasDigests (paths_at within documents elements d)
    paths_have End d h = (tt, tt)
    paths_have (More' p element q rest) d h =
        Each-product HasDigests HasDigests HasDigests (paths_at_element within documents element d) (paths_at within documents rest (digest_at_element element d)) followed_has (element_has element d h.0) (paths_have rest (digest_at_element element d) h.1)

    pub element_has : (element : ClosedElement) (d : Digest32) → EachAssertionOfElement HasPcrDigest element → AllByRecursion HasDigests (paths_at_element within documents element d)
    element_has (Assert assertion) d h = ((h, tt), tt)
    element_has (Or branches) d h = branches_have branches 1 (branch_digests branches d) d h
    element_has (Authorize key policy_ref) d h =
        Each-append HasDigests (approved_paths within documents (Authorize key policy_ref)) _ (approved_have (Authorize key policy_ref) (λ document. by_key_each HasMoveDigest key policy_ref document.digest document.by (λ signature. tt))) ((tt, tt), tt)
    element_has (AuthorizeNv index) d h =
        Each-append HasDigests (approved_paths within documents (AuthorizeNv index)) _ (approved_have (AuthorizeNv index) (λ document. by_index_each HasMoveDigest index document.digest document.by tt)) ((tt, tt), tt)

    pub branches_have : (branches : ClosedBranches) (position : ℕ) (all : List Digest32) (d : Digest32) → EachAssertionOfBranches HasPcrDigest branches → AllByRecursion HasDigests (paths_at_branches within documents branches position (OrMove all) d)
    branches_have EndBranches position all d h = tt
    branches_have (MoreBranches' p name elements q rest) position all d h =
        Each-append HasDigests (map (between (Branch position name) (OrMove all)) (paths_at within documents elements d)) (paths_at_branches within documents rest (position + 1) (OrMove all) d)
        (Each-map HasDigests HasDigests (between (Branch position name) (OrMove all)) (paths_at within documents elements d) (λ path h. before_move (OrMove all) path.moves tt h) (paths_have elements d h.0))
        (branches_have rest (position + 1) all d h.1)

documents_have : (documents : List ApprovedDoc) → AllByRecursion IsWellFormedDocument documents → (levels : ℕ) → AllByRecursion (λ document. AllByRecursion HasDigests (document_paths documents levels document)) documents
unfolding document_paths
documents_have documents well zero = each documents well
  where
    each : (some : List ApprovedDoc) → AllByRecursion IsWellFormedDocument some → AllByRecursion (λ document. AllByRecursion HasDigests (document_paths documents zero document)) some
    each [] w = tt
    each (document ∷ rest) w = (tt, each rest w.1)
documents_have documents well (suc levels) = each (documents_have documents well levels) documents well
  where
    each : AllByRecursion (λ document. AllByRecursion HasDigests (document_paths documents levels document)) documents → (some : List ApprovedDoc) → AllByRecursion IsWellFormedDocument some → AllByRecursion (λ document. AllByRecursion HasDigests (document_paths documents (suc levels) document)) some
    each before [] w = tt
    each before (document ∷ rest) w = (
      paths_have (document_paths documents levels) documents before document.closed.elements zero_digest w.0.policy.pcr_digests,
      each before rest w.1,
    )

pub paths_have_digests : (policy : Closed) (approvals : List ApprovedDoc) → IsWellFormed policy approvals → AllByRecursion HasDigests (paths_of policy approvals)
paths_have_digests policy approvals well =
    paths_have (document_paths approvals 4) approvals (documents_have approvals (recursion_from_All IsWellFormedDocument approvals well.documents) 4) policy.elements zero_digest well.policy_itself.pcr_digests

-- On every path of a well-formed policy each OR and each approval meets the digest before it.
use Rattle.std.proofs.Common.{◌≡◌, ℕ, zero, suc, ◌+◌, Bool, true, false, IsTrue, List, [], ◌∷◌, ◌++◌, map, Option, Some, None, inl, inr, refl, sym, ap, ◌∙◌, subst}
use Rattle.std.specs.Prelude.{IfSome, All}
use Rattle.std.specs.List.{AllByRecursion}
use Rattle.std.proofs.lemmas.Bool.{false≢true}
use Rattle.std.proofs.lemmas.List.Elements.{All-from_recursion, recursion_from_All}
use Rattle.tpol_base.specs.declared.digest.Digest32.{Digest32}
use Rattle.tpol_tree.specs.declared.closed.Closed.{Closed}
use Rattle.tpol_tree.specs.declared.closed.ClosedElements.{ClosedElements}
use Rattle.tpol_tree.specs.declared.closed.ClosedElements.TheVariants.{More', End}
use Rattle.tpol_tree.specs.declared.closed.ClosedElement.{ClosedElement}
use Rattle.tpol_tree.specs.declared.closed.ClosedElement.TheVariants.{Assert, Or, Authorize, AuthorizeNv}
use Rattle.tpol_tree.specs.declared.closed.ClosedBranches.{ClosedBranches}
use Rattle.tpol_tree.specs.declared.closed.ClosedBranches.TheVariants.{More' as MoreBranches', End as EndBranches}
use Rattle.tpol_tree.specs.declared.path.ApprovedDoc.{ApprovedDoc}
use Rattle.tpol_tree.specs.declared.path.Move.{Move}
use Rattle.tpol_tree.specs.declared.path.Move.TheVariants.{Or as OrMove}
use Rattle.tpol_tree.specs.declared.path.Path.{Path}
use Rattle.tpol_tree.specs.declared.path.PathStep.TheVariants.{Branch, Document}
use Rattle.tpol_tree.specs.Closed.{ApprovalsLead, ApprovalsLeadElement, ApprovalsLeadBranches}
use Rattle.tpol_digest.specs.Digest.{zero_digest, digest_after, digest_from, digest_at, digest_at_element, branch_digests, policy_digest, approve_digest, approve_nv_digest, or_digest}
use Rattle.tpol_digest.specs.Paths.{followed_by, between, approval_of, paths_by_approval, approved_paths, paths_at, paths_at_element, paths_at_branches, document_paths, paths_of}
use Rattle.tpol_digest.specs.Sound.{Among, Meets, IsSoundFrom, IsSound}
use Rattle.tpol_digest.specs.WellFormed.{IsWellFormed, IsWellFormedDocument}
use Rattle.tpol_digest.proofs.Products.{Each-append, Each-map, Each-flat_map, Each-product}
use Rattle.tpol_digest.proofs.Meeting.{digest_from-append, by_key_each, by_index_each}

sound-append : (d : Digest32) (xs ys : List Move) → IsSoundFrom d xs → IsSoundFrom (digest_from d xs) ys → IsSoundFrom d (xs ++ ys)
sound-append d [] ys h k = k
sound-append d (x ∷ xs) ys h k = (h.0, sound-append (digest_after x d) xs ys h.1 k)

-- the path's moves are sound and lead from one digest to another
abbrev pub Travels : Digest32 → Digest32 → Path → Type 0
Travels d e p = IsSoundFrom d p.moves × (digest_from d p.moves ≡ e)

followed_travels : (d e f : Digest32) (p q : Path) → Travels d e p → Travels e f q → Travels d f (followed_by p q)
followed_travels d e f p q h k = (
  sound-append d p.moves q.moves h.0 (subst (λ x. IsSoundFrom x q.moves) (sym h.1) k.0),
  digest_from-append d p.moves q.moves ∙ ap (λ x. digest_from x q.moves) h.1 ∙ k.1,
)

-- the last move meets what the path before it leads to
between_travels : (d e f : Digest32) (act : Move) (p : Path) → Meets e act → ((x : Digest32) → digest_after act x ≡ f) → Travels d e p → IsSoundFrom d (p.moves ++ act ∷ []) × (digest_from d (p.moves ++ act ∷ []) ≡ f)
between_travels d e f act p meets fresh h = (
  sound-append d p.moves (act ∷ []) h.0 (subst (λ x. Meets x act) (sym h.1) meets, tt),
  digest_from-append d p.moves (act ∷ []) ∙ fresh (digest_from d p.moves),
)

-- the digest before a leading element is zero
abbrev Starts : Bool → Digest32 → Type 0
Starts leads d = IsTrue leads → d ≡ zero_digest

module _ (within : ApprovedDoc → List Path) (documents : List ApprovedDoc) (sound_within : AllByRecursion (λ document. AllByRecursion (Travels zero_digest document.digest) (within document)) documents) where
  approved_travel : (d e : Digest32) (element : ClosedElement) → d ≡ zero_digest → ((document : ApprovedDoc) → IfSome (approval_of element document) (λ act. Meets document.digest act × ((x : Digest32) → digest_after act x ≡ e))) → AllByRecursion (Travels d e) (approved_paths within documents element)
  approved_travel d e element starts h =
      Each-flat_map (λ document. AllByRecursion (Travels zero_digest document.digest) (within document)) (Travels d e) (λ document. paths_by_approval (approval_of element document) document (within document)) documents (λ document paths. one document (approval_of element document) (h document) paths) sound_within
    where
      one : (document : ApprovedDoc) (found : Option Move) → IfSome found (λ act. Meets document.digest act × ((x : Digest32) → digest_after act x ≡ e)) → AllByRecursion (Travels zero_digest document.digest) (within document) → AllByRecursion (Travels d e) (paths_by_approval found document (within document))
      one document None k paths = tt
      one document (Some act) k paths =
          Each-map (Travels zero_digest document.digest) (Travels d e) (between (Document document.document) act) (within document) (λ p t. between_travels d document.digest e act p k.0 k.1 (subst (λ x. Travels x document.digest p) (sym starts) t)) paths

  mutual
    pub paths_at_travel : (elements : ClosedElements) (d : Digest32) (leads : Bool) → Starts leads d → ApprovalsLead leads elements → AllByRecursion (Travels d (digest_at elements d)) (paths_at within documents elements d)
    paths_at_travel End d leads starts lead = ((tt, refl), tt)
    paths_at_travel (More' p element q rest) d leads starts lead =
        let e = digest_at_element element d in
        Each-product (Travels d e) (Travels e (digest_at rest e)) (Travels d (digest_at rest e)) (paths_at_element within documents element d) (paths_at within documents rest e) (followed_travels d e (digest_at rest e)) (paths_at_element_travel element d leads starts lead.0) (paths_at_travel rest e false (λ h. absurd (false≢true h)) lead.1)

    pub paths_at_element_travel : (element : ClosedElement) (d : Digest32) (leads : Bool) → Starts leads d → ApprovalsLeadElement leads element → AllByRecursion (Travels d (digest_at_element element d)) (paths_at_element within documents element d)
    paths_at_element_travel (Assert assertion) d leads starts lead = (((tt, tt), refl), tt)
    paths_at_element_travel (Or branches) d leads starts lead =
        paths_at_branches_travel branches 1 (branch_digests branches d) d leads starts lead (λ x h. h)
    paths_at_element_travel (Authorize key policy_ref) d leads starts lead =
        Each-append (Travels d (approve_digest key policy_ref)) (approved_paths within documents (Authorize key policy_ref)) _ (approved_travel d (approve_digest key policy_ref) (Authorize key policy_ref) (starts lead) (λ document. by_key_each (λ act. Meets document.digest act × ((x : Digest32) → digest_after act x ≡ approve_digest key policy_ref)) key policy_ref document.digest document.by (λ signature. (refl, λ x. refl)))) (((starts lead, tt), refl), tt)
    paths_at_element_travel (AuthorizeNv index) d leads starts lead =
        Each-append (Travels d (approve_nv_digest index)) (approved_paths within documents (AuthorizeNv index)) _ (approved_travel d (approve_nv_digest index) (AuthorizeNv index) (starts lead) (λ document. by_index_each (λ act. Meets document.digest act × ((x : Digest32) → digest_after act x ≡ approve_nv_digest index)) index document.digest document.by (refl, λ x. refl))) (((starts lead, tt), refl), tt)

    pub paths_at_branches_travel : (branches : ClosedBranches) (position : ℕ) (all : List Digest32) (d : Digest32) (leads : Bool) → Starts leads d → ApprovalsLeadBranches leads branches → ((x : Digest32) → Among x (branch_digests branches d) → Among x all) → AllByRecursion (Travels d (or_digest all)) (paths_at_branches within documents branches position (OrMove all) d)
    paths_at_branches_travel EndBranches position all d leads starts lead among = tt
    paths_at_branches_travel (MoreBranches' p name elements q rest) position all d leads starts lead among =
        Each-append (Travels d (or_digest all)) (map (between (Branch position name) (OrMove all)) (paths_at within documents elements d)) (paths_at_branches within documents rest (position + 1) (OrMove all) d) (Each-map (Travels d (digest_at elements d)) (Travels d (or_digest all)) (between (Branch position name) (OrMove all)) (paths_at within documents elements d) (λ path t. between_travels d (digest_at elements d) (or_digest all) (OrMove all) path (among (digest_at elements d) (inl refl)) (λ x. refl) t) (paths_at_travel elements d leads starts lead.0)) (paths_at_branches_travel rest (position + 1) all d leads starts lead.1 (λ x h. among x (inr h)))

-- the paths of a document lead to its digest
document_travels : (documents : List ApprovedDoc) → AllByRecursion IsWellFormedDocument documents → (levels : ℕ) → AllByRecursion (λ document. AllByRecursion (Travels zero_digest document.digest) (document_paths documents levels document)) documents
unfolding document_paths
document_travels documents well zero = each documents well
  where
    each : (some : List ApprovedDoc) → AllByRecursion IsWellFormedDocument some → AllByRecursion (λ document. AllByRecursion (Travels zero_digest document.digest) (document_paths documents zero document)) some
    each [] w = tt
    each (document ∷ rest) w = (tt, each rest w.1)
document_travels documents well (suc levels) = each (document_travels documents well levels) documents well
  where
    each : AllByRecursion (λ document. AllByRecursion (Travels zero_digest document.digest) (document_paths documents levels document)) documents → (some : List ApprovedDoc) → AllByRecursion IsWellFormedDocument some → AllByRecursion (λ document. AllByRecursion (Travels zero_digest document.digest) (document_paths documents (suc levels) document)) some
    each before [] w = tt
    each before (document ∷ rest) w = (
      subst (λ x. AllByRecursion (Travels zero_digest x) (document_paths documents (suc levels) document)) (sym w.0.digest) (paths_at_travel (document_paths documents levels) documents before document.closed.elements zero_digest true (λ _. refl) w.0.policy.approvals_lead),
      each before rest w.1,
    )

sound_only : (d e : Digest32) (paths : List Path) → AllByRecursion (Travels d e) paths → AllByRecursion (λ p. IsSoundFrom d p.moves) paths
sound_only d e [] h = tt
sound_only d e (p ∷ rest) h = (h.0.0, sound_only d e rest h.1)

pub paths_of_sound : (policy : Closed) (approvals : List ApprovedDoc) → IsWellFormed policy approvals → All (λ p. IsSound p.moves) (paths_of policy approvals)
paths_of_sound policy approvals well =
    All-from_recursion (λ p. IsSound p.moves) (paths_of policy approvals) (sound_only zero_digest (policy_digest policy) (paths_of policy approvals) (paths_at_travel (document_paths approvals 4) approvals (document_travels approvals (recursion_from_All IsWellFormedDocument approvals well.documents) 4) policy.elements zero_digest true (λ _. refl) well.policy_itself.approvals_lead))

-- All branches meet: every path's moves give the digest of the policy.
use Rattle.std.proofs.Common.{◌≡◌, ℕ, ◌+◌, Bool, true, false, List, [], ◌∷◌, ◌++◌, map, Option, Some, None, refl, ap, ◌∙◌}
use Rattle.std.specs.Prelude.{All, IfSome, if◌then◌else◌}
use Rattle.std.proofs.lemmas.List.Elements.{All-from_recursion}
use Rattle.tpol_tree.specs.declared.closed.Closed.{Closed}
use Rattle.std.specs.List.{flat_map, AllByRecursion}
use Rattle.tpol_base.specs.declared.digest.Digest32.{Digest32}
use Rattle.tpol_base.specs.declared.name.Name.{Name}
use Rattle.tpol_tree.specs.declared.closed.ClosedElements.{ClosedElements}
use Rattle.tpol_tree.specs.declared.closed.ClosedElements.TheVariants.{More', End}
use Rattle.tpol_tree.specs.declared.closed.ClosedElement.{ClosedElement}
use Rattle.tpol_tree.specs.declared.closed.ClosedElement.TheVariants.{Assert, Or, Authorize, AuthorizeNv}
use Rattle.tpol_tree.specs.declared.closed.ClosedBranches.{ClosedBranches}
use Rattle.tpol_tree.specs.declared.closed.ClosedBranches.TheVariants.{More' as MoreBranches', End as EndBranches}
use Rattle.tpol_tree.specs.declared.path.ApprovedDoc.{ApprovedDoc}
use Rattle.tpol_tree.specs.declared.path.ApprovedBy.{ApprovedBy}
use Rattle.tpol_tree.specs.declared.path.ApprovedBy.TheVariants.{Key, Index}
use Rattle.tpol_tree.specs.declared.path.Move.{Move}
use Rattle.tpol_tree.specs.declared.path.Move.TheVariants.{Or as OrMove, Approve, ApproveNv}
use Rattle.tpol_tree.specs.declared.path.Path.{Path}
use Rattle.tpol_tree.specs.declared.path.PathStep.TheVariants.{Branch, Document}
use Rattle.tpol_digest.specs.Digest.{zero_digest, digest_after, digest_from, digest_at, digest_at_element, branch_digests, approve_digest, approve_nv_digest, or_digest, digest_of_moves, policy_digest}
use Rattle.tpol_digest.specs.Paths.{followed_by, between, approval_by_key, approval_by_index, approval_of, paths_by_approval, approved_paths, paths_at, paths_at_element, paths_at_branches, document_paths, paths_of}
use Rattle.tpol_digest.proofs.Products.{Each-append, Each-map, Each-product}

pub digest_from-append : (d : Digest32) (xs ys : List Move) → digest_from d (xs ++ ys) ≡ digest_from (digest_from d xs) ys
digest_from-append d [] ys = refl
digest_from-append d (x ∷ xs) ys = digest_from-append (digest_after x d) xs ys

-- a fact of a choice of two
pub IfSome-cond : (P : Move → Type 0) (b : Bool) (act : Move) → P act → IfSome (if b then Some act else None) P
IfSome-cond P true act h = h
IfSome-cond P false act h = tt

-- what holds of each way to use this approver's approvals holds of each approval that is found
pub by_key_each : (P : Move → Type 0) (key : Name) (policy_ref : List ℕ) (digest : Digest32) (by : ApprovedBy) → ((signature : Digest32) → P (Approve key policy_ref digest signature)) → IfSome (approval_by_key key policy_ref digest by) P
by_key_each P key policy_ref digest (Key other under signature) h = IfSome-cond P _ _ (h signature)
by_key_each P key policy_ref digest (Index other) h = tt

pub by_index_each : (P : Move → Type 0) (index : Name) (digest : Digest32) (by : ApprovedBy) → P (ApproveNv index digest) → IfSome (approval_by_index index digest by) P
by_index_each P index digest (Key other under signature) h = tt
by_index_each P index digest (Index other) h = IfSome-cond P _ _ h

-- the paths before an approval
pub Each-by_approval : (P Q : Path → Type 0) (found : Option Move) (document : ApprovedDoc) (paths : List Path) → IfSome found (λ act. (p : Path) → P p → Q (between (Document document.document) act p)) → AllByRecursion P paths → AllByRecursion Q (paths_by_approval found document paths)
Each-by_approval P Q None document paths h k = tt
Each-by_approval P Q (Some act) document paths h k = Each-map P Q (between (Document document.document) act) paths h k

Each-any : {A : Type 0} (xs : List A) → AllByRecursion (λ _. Unit {0}) xs
Each-any [] = tt
Each-any (x ∷ xs) = (tt, Each-any xs)

-- a move that starts from zero, behind any moves
last_move : (d e : Digest32) (act : Move) → ((x : Digest32) → digest_after act x ≡ e) → (moves : List Move) → digest_from d (moves ++ act ∷ []) ≡ e
last_move d e act h moves = digest_from-append d moves (act ∷ []) ∙ h (digest_from d moves)

-- the path's moves lead from one digest to another
abbrev pub Reaches : Digest32 → Digest32 → Path → Type 0
Reaches d e p = digest_from d p.moves ≡ e

followed_reaches : (d e f : Digest32) (p q : Path) → Reaches d e p → Reaches e f q → Reaches d f (followed_by p q)
followed_reaches d e f p q h k = digest_from-append d p.moves q.moves ∙ ap (λ x. digest_from x q.moves) h ∙ k

module _ (within : ApprovedDoc → List Path) (documents : List ApprovedDoc) where
  approved_meet : (d e : Digest32) (element : ClosedElement) → ((document : ApprovedDoc) → IfSome (approval_of element document) (λ act. (x : Digest32) → digest_after act x ≡ e)) → (some : List ApprovedDoc) → AllByRecursion (Reaches d e) (flat_map (λ document. paths_by_approval (approval_of element document) document (within document)) some)
  approved_meet d e element h [] = tt
  approved_meet d e element h (document ∷ rest) =
      Each-append (Reaches d e) (paths_by_approval (approval_of element document) document (within document)) (flat_map (λ x. paths_by_approval (approval_of element x) x (within x)) rest) (one (approval_of element document) (h document)) (approved_meet d e element h rest)
    where
      one : (found : Option Move) → IfSome found (λ act. (x : Digest32) → digest_after act x ≡ e) → AllByRecursion (Reaches d e) (paths_by_approval found document (within document))
      one None k = tt
      one (Some act) k = Each-map (λ _. Unit {0}) (Reaches d e) (between (Document document.document) act) (within document) (λ p _. last_move d e act k p.moves) (Each-any (within document))

  mutual
    pub paths_at_meet : (elements : ClosedElements) (d : Digest32) → AllByRecursion (Reaches d (digest_at elements d)) (paths_at within documents elements d)
    paths_at_meet End d = (refl, tt)
    paths_at_meet (More' p element q rest) d =
        Each-product (Reaches d (digest_at_element element d)) (Reaches (digest_at_element element d) (digest_at rest (digest_at_element element d))) (Reaches d (digest_at rest (digest_at_element element d))) (paths_at_element within documents element d) (paths_at within documents rest (digest_at_element element d)) (followed_reaches d (digest_at_element element d) (digest_at rest (digest_at_element element d))) (paths_at_element_meet element d) (paths_at_meet rest (digest_at_element element d))

    pub paths_at_element_meet : (element : ClosedElement) (d : Digest32) → AllByRecursion (Reaches d (digest_at_element element d)) (paths_at_element within documents element d)
    paths_at_element_meet (Assert assertion) d = (refl, tt)
    paths_at_element_meet (Or branches) d =
        paths_at_branches_meet branches 1 (OrMove (branch_digests branches d)) d (or_digest (branch_digests branches d)) (λ x. refl)
    paths_at_element_meet (Authorize key policy_ref) d =
        Each-append (Reaches d (approve_digest key policy_ref)) (approved_paths within documents (Authorize key policy_ref)) _ (approved_meet d (approve_digest key policy_ref) (Authorize key policy_ref) (λ document. by_key_each (λ act. (x : Digest32) → digest_after act x ≡ approve_digest key policy_ref) key policy_ref document.digest document.by (λ signature x. refl)) documents) (refl, tt)
    paths_at_element_meet (AuthorizeNv index) d =
        Each-append (Reaches d (approve_nv_digest index)) (approved_paths within documents (AuthorizeNv index)) _ (approved_meet d (approve_nv_digest index) (AuthorizeNv index) (λ document. by_index_each (λ act. (x : Digest32) → digest_after act x ≡ approve_nv_digest index) index document.digest document.by (λ x. refl)) documents) (refl, tt)

    pub paths_at_branches_meet : (branches : ClosedBranches) (position : ℕ) (act : Move) (d e : Digest32) → ((x : Digest32) → digest_after act x ≡ e) → AllByRecursion (Reaches d e) (paths_at_branches within documents branches position act d)
    paths_at_branches_meet EndBranches position act d e h = tt
    paths_at_branches_meet (MoreBranches' p name elements q rest) position act d e h =
        Each-append (Reaches d e) (map (between (Branch position name) act) (paths_at within documents elements d)) (paths_at_branches within documents rest (position + 1) act d) (Each-map (Reaches d (digest_at elements d)) (Reaches d e) (between (Branch position name) act) (paths_at within documents elements d) (λ path _. last_move d e act h path.moves) (paths_at_meet elements d)) (paths_at_branches_meet rest (position + 1) act d e h)

pub paths_of_meet : (policy : Closed) (approvals : List ApprovedDoc) → All (λ p. digest_of_moves p.moves ≡ policy_digest policy) (paths_of policy approvals)
paths_of_meet policy approvals =
    All-from_recursion (λ p. digest_of_moves p.moves ≡ policy_digest policy) (paths_of policy approvals) (paths_at_meet (document_paths approvals 4) approvals policy.elements zero_digest)

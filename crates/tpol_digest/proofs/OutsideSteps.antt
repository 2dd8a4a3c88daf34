-- A path is outside exactly where one of its choices is.
use Rattle.std.proofs.Common.{◌≡◌, ℕ, zero, suc, ◌+◌, List, [], ◌∷◌, map, Option, Some, None, refl, sym, ap, ◌∙◌}
use Rattle.std.specs.Prelude.{All, ◌||◌}
use Rattle.std.specs.List.{flat_map, list_any, AllByRecursion}
use Rattle.std.proofs.lemmas.List.Elements.{All-from_recursion}
use Rattle.std.proofs.lemmas.List.Folds.{list_any-append}
use Rattle.tpol_base.specs.declared.digest.Digest32.{Digest32}
use Rattle.tpol_tree.specs.declared.closed.Closed.{Closed}
use Rattle.tpol_tree.specs.declared.closed.ClosedElements.{ClosedElements}
use Rattle.tpol_tree.specs.declared.closed.ClosedElements.TheVariants.{More', End}
use Rattle.tpol_tree.specs.declared.closed.ClosedElement.{ClosedElement}
use Rattle.tpol_tree.specs.declared.closed.ClosedElement.TheVariants.{Assert, Or, Authorize, AuthorizeNv}
use Rattle.tpol_tree.specs.declared.closed.ClosedBranches.{ClosedBranches}
use Rattle.tpol_tree.specs.declared.closed.ClosedBranches.TheVariants.{More' as MoreBranches', End as EndBranches}
use Rattle.tpol_tree.specs.declared.path.ApprovedDoc.{ApprovedDoc}
use Rattle.tpol_tree.specs.declared.path.Move.{Move}
use Rattle.tpol_tree.specs.declared.path.Move.TheVariants.{Or as OrMove}
use Rattle.tpol_tree.specs.declared.path.Path.{Path}
use Rattle.tpol_tree.specs.declared.path.PathStep.TheVariants.{Branch, Document}
use Rattle.tpol_digest.specs.Digest.{zero_digest, digest_at_element, branch_digests}
use Rattle.tpol_digest.specs.Paths.{is_outside, followed_by, between, approval_of, paths_by_approval, approved_paths, outside_paths, paths_at, paths_at_element, paths_at_branches, document_paths, paths_of}
use Rattle.tpol_digest.proofs.Products.{Each-append, Each-map, Each-product}

-- the path says whether one of its choices is outside
abbrev TellsOutside : Path → Type 0
TellsOutside p = p.outside ≡ list_any is_outside p.steps

followed_tells : (p q : Path) → TellsOutside p → TellsOutside q → TellsOutside (followed_by p q)
followed_tells p q h k =
    ap (λ b. b || q.outside) h ∙ ap (λ b. list_any is_outside p.steps || b) k ∙ sym (list_any-append is_outside p.steps q.steps)

module _ (within : ApprovedDoc → List Path) (documents : List ApprovedDoc) (told : (document : ApprovedDoc) → AllByRecursion TellsOutside (within document)) where
  approved_tell : (element : ClosedElement) (some : List ApprovedDoc) → AllByRecursion TellsOutside (flat_map (λ document. paths_by_approval (approval_of element document) document (within document)) some)
  approved_tell element [] = tt
  approved_tell element (document ∷ rest) =
      Each-append TellsOutside (paths_by_approval (approval_of element document) document (within document)) (flat_map (λ x. paths_by_approval (approval_of element x) x (within x)) rest) (one (approval_of element document)) (approved_tell element rest)
    where
      one : (found : Option Move) → AllByRecursion TellsOutside (paths_by_approval found document (within document))
      one None = tt
      one (Some act) = Each-map TellsOutside TellsOutside (between (Document document.document) act) (within document) (λ p h. h) (told document)

  mutual
    paths_at_tell : (elements : ClosedElements) (d : Digest32) → AllByRecursion TellsOutside (paths_at within documents elements d)
    paths_at_tell End d = (refl, tt)
    paths_at_tell (More' p element q rest) d =
        Each-product TellsOutside TellsOutside TellsOutside (paths_at_element within documents element d) (paths_at within documents rest (digest_at_element element d)) followed_tells (paths_at_element_tell element d) (paths_at_tell rest (digest_at_element element d))

    paths_at_element_tell : (element : ClosedElement) (d : Digest32) → AllByRecursion TellsOutside (paths_at_element within documents element d)
    paths_at_element_tell (Assert assertion) d = (refl, tt)
    paths_at_element_tell (Or branches) d = paths_at_branches_tell branches 1 (OrMove (branch_digests branches d)) d
    paths_at_element_tell (Authorize key policy_ref) d =
        Each-append TellsOutside (approved_paths within documents (Authorize key policy_ref)) (outside_paths (Authorize key policy_ref)) (approved_tell (Authorize key policy_ref) documents) (refl, tt)
    paths_at_element_tell (AuthorizeNv index) d =
        Each-append TellsOutside (approved_paths within documents (AuthorizeNv index)) (outside_paths (AuthorizeNv index)) (approved_tell (AuthorizeNv index) documents) (refl, tt)

    paths_at_branches_tell : (branches : ClosedBranches) (position : ℕ) (act : Move) (d : Digest32) → AllByRecursion TellsOutside (paths_at_branches within documents branches position act d)
    paths_at_branches_tell EndBranches position act d = tt
    paths_at_branches_tell (MoreBranches' p name elements q rest) position act d =
        Each-append TellsOutside (map (between (Branch position name) act) (paths_at within documents elements d)) (paths_at_branches within documents rest (position + 1) act d) (Each-map TellsOutside TellsOutside (between (Branch position name) act) (paths_at within documents elements d) (λ path h. h) (paths_at_tell elements d)) (paths_at_branches_tell rest (position + 1) act d)

document_tells : (documents : List ApprovedDoc) (levels : ℕ) (document : ApprovedDoc) → AllByRecursion TellsOutside (document_paths documents levels document)
unfolding document_paths
document_tells documents zero document = tt
document_tells documents (suc levels) document =
    paths_at_tell (document_paths documents levels) documents (document_tells documents levels) document.closed.elements zero_digest

pub paths_of_tell : (policy : Closed) (approvals : List ApprovedDoc) → All (λ p. p.outside ≡ list_any is_outside p.steps) (paths_of policy approvals)
paths_of_tell policy approvals =
    All-from_recursion (λ p. p.outside ≡ list_any is_outside p.steps) (paths_of policy approvals) (paths_at_tell (document_paths approvals 4) approvals (document_tells approvals 4) policy.elements zero_digest)

-- The paths of documents, level by level.
use Rattle.std.proofs.Common.{◌≡◌, ◌≢◌, ℕ, zero, suc, ◌-◌, List, [], ◌∷◌, ◌++◌, Option, Some, None, refl, ap, ◌∙◌, arith}
use Rattle.tpol_tree.specs.declared.closed.ClosedElement.{ClosedElement}
use Rattle.tpol_tree.specs.declared.path.ApprovedDoc.{ApprovedDoc}
use Rattle.tpol_tree.specs.declared.path.Move.{Move}
use Rattle.tpol_digest.specs.Digest.{zero_digest}
use Rattle.tpol_digest.specs.Paths.{approval_of, paths_by_approval, approved_paths, paths_at, document_paths}

-- with no level left no document is entered
pub approved_none : (documents some : List ApprovedDoc) (element : ClosedElement) → approved_paths (document_paths documents zero) some element ≡ []
unfolding document_paths
approved_none documents [] element = refl
approved_none documents (document ∷ rest) element =
    ap (λ l. l ++ approved_paths (document_paths documents zero) rest element) (nothing (approval_of element document)) ∙ approved_none documents rest element
  where
    nothing : (found : Option Move) → paths_by_approval found document [] ≡ []
    nothing None = refl
    nothing (Some act) = refl

-- a document's paths are those of its policy with one level less
pub document_paths-some : (documents : List ApprovedDoc) (levels : ℕ) (document : ApprovedDoc) → levels ≢ 0 → document_paths documents levels document ≡ paths_at (document_paths documents (levels - 1)) documents document.closed.elements zero_digest
unfolding document_paths
document_paths-some documents zero document h = absurd (h refl)
document_paths-some documents (suc levels) document h =
    let e : levels ≡ suc levels - 1 = omega arith in
    ap (λ n. paths_at (document_paths documents n) documents document.closed.elements zero_digest) e

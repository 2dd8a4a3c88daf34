-- The digests that are kept beside a policy are those of the same policy, wherever its boxes lie.
use Rattle.std.proofs.Common.{◌≡◌, List, Option, refl, sym, ap, ◌∙◌, subst}
use Rattle.std.specs.Prelude.{IfSome}
use Rattle.tpol_base.specs.declared.digest.Digest32.{Digest32}
use Rattle.tpol_digest.proofs.Erasures.{branch_digests-erased, digest_at_element-erased, extent_at_branches-erased}
use Rattle.tpol_digest.specs.Digest.{digest_at_element, zero_digest}
use Rattle.tpol_digest.specs.Extent.{FullExtent, IsCapped, IsOwnExtentOfBranches}
use Rattle.tpol_digest.specs.Memos.{AreMemos, IfPlain, IsMemo, IsMemoOf}
use Rattle.tpol_digest.specs.declared.extent.Extent.{Extent}
use Rattle.tpol_digest.specs.declared.memo.BranchMemos.{BranchMemos}
use Rattle.tpol_digest.specs.declared.memo.BranchMemos.TheVariants as memos
use Rattle.tpol_digest.specs.declared.memo.Memo.{Memo}
use Rattle.tpol_digest.specs.declared.memo.Memo.TheVariants as memo
use Rattle.tpol_tree.specs.ClosedErased.{erased, erased_branches, erased_element, erased_elements}
use Rattle.tpol_tree.specs.declared.closed.Closed.{Closed}
use Rattle.tpol_tree.specs.declared.closed.ClosedBranches.{ClosedBranches}
use Rattle.tpol_tree.specs.declared.closed.ClosedBranches.TheVariants.{More' as MoreBranches', End as EndBranches}
use Rattle.tpol_tree.specs.declared.closed.ClosedElement.{ClosedElement}
use Rattle.tpol_tree.specs.declared.closed.ClosedElement.TheVariants.{Assert, Or, Authorize, AuthorizeNv}
use Rattle.tpol_tree.specs.declared.closed.ClosedElements.{ClosedElements}
use Rattle.tpol_tree.specs.declared.closed.ClosedElements.TheVariants.{More', End}
use Rattle.tpol_tree.specs.declared.path.ApprovedDoc.{ApprovedDoc}

-- ---- what is kept first of an element that is no OR, where alike facts hold of what is kept behind it

plain_alike : (Is : Digest32 → Type 0) (Rest Other : Memo → Type 0) → ((m : Memo) → Rest m ≡ Other m) → (m : Memo) → IfPlain m Is Rest ≡ IfPlain m Is Other
plain_alike Is Rest Other alike memo.End = refl
plain_alike Is Rest Other alike (memo.Plain' after p rest) = λ i. (Is after) × (alike rest i)
plain_alike Is Rest Other alike (memo.Or' after digests extent p branches q rest) = refl

-- ---- each fact is the same of the policy without the places of its boxes

extent-erased : (branches : ClosedBranches) (kept : Option Extent) → IfSome kept (IsOwnExtentOfBranches (erased_branches branches)) ≡ IfSome kept (IsOwnExtentOfBranches branches)
extent-erased branches kept = λ i.
    IfSome kept (λ extent. (within : Option (ApprovedDoc → FullExtent)) (documents : List ApprovedDoc) → IsCapped extent (extent_at_branches-erased within documents branches i))

mutual
  memo-erased : (elements : ClosedElements) (d : Digest32) (m : Memo) → IsMemo (erased_elements elements) d m ≡ IsMemo elements d m
  memo-erased End d m = refl
  memo-erased (More' p element q rest) d m =
      element-erased element d (IsMemo (erased_elements rest) (digest_at_element (erased_element element) d)) (IsMemo rest (digest_at_element element d))
      (λ behind. ap (λ before. IsMemo (erased_elements rest) before behind) (digest_at_element-erased element d) ∙ memo-erased rest (digest_at_element element d) behind) m

  element-erased : (element : ClosedElement) (d : Digest32) (Rest Other : Memo → Type 0) → ((m : Memo) → Rest m ≡ Other m) → (m : Memo) → IsMemoOf (erased_element element) d m Rest ≡ IsMemoOf element d m Other
  element-erased (Assert assertion) d Rest Other alike m = plain_alike (λ after. after ≡ digest_at_element (Assert assertion) d) Rest Other alike m
  element-erased (Authorize key policy_ref) d Rest Other alike m = plain_alike (λ after. after ≡ digest_at_element (Authorize key policy_ref) d) Rest Other alike m
  element-erased (AuthorizeNv index) d Rest Other alike m = plain_alike (λ after. after ≡ digest_at_element (AuthorizeNv index) d) Rest Other alike m
  element-erased (Or branches) d Rest Other alike memo.End = refl
  element-erased (Or branches) d Rest Other alike (memo.Plain' after p rest) = refl
  element-erased (Or branches) d Rest Other alike (memo.Or' after digests extent p kept q rest) =
      λ i. ((after ≡ digest_at_element-erased (Or branches) d i) × (digests ≡ branch_digests-erased branches d i) × extent-erased branches extent i × branches-erased branches d kept i) × alike rest i

  branches-erased : (branches : ClosedBranches) (d : Digest32) (kept : BranchMemos) → AreMemos (erased_branches branches) d kept ≡ AreMemos branches d kept
  branches-erased EndBranches d kept = refl
  branches-erased (MoreBranches' p name elements q rest) d memos.End = refl
  branches-erased (MoreBranches' p name elements q rest) d (memos.More' r first s others) =
      λ i. (memo-erased elements d first i) × (branches-erased rest d others i)

-- what is kept beside a policy can be kept beside the same policy
pub memo_of_same : (a b : Closed) (m : Memo) → erased a ≡ erased b → IsMemo b.elements zero_digest m → IsMemo a.elements zero_digest m
memo_of_same a b m same is =
    subst (λ (T : Type 0). T)
    (sym (memo-erased b.elements zero_digest m) ∙ (ap (λ (c : Closed). IsMemo c.elements zero_digest m) (sym same) ∙ memo-erased a.elements zero_digest m)) is

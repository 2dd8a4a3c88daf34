-- The digests of a policy that are kept beside it, and the extents of its ORs.
use Rattle.std.specs.Prelude.{◌≡◌, List, Option, IfSome, ⊤}
use Rattle.tpol_base.specs.declared.digest.Digest32.{Digest32}
use Rattle.tpol_digest.specs.Digest.{branch_digests, digest_at_element}
use Rattle.tpol_digest.specs.Extent.{IsOwnExtentOfBranches}
use Rattle.tpol_digest.specs.declared.extent.Extent.{Extent}
use Rattle.tpol_digest.specs.declared.memo.Before.{Before}
use Rattle.tpol_digest.specs.declared.memo.BeforeBranches.{BeforeBranches}
use Rattle.tpol_digest.specs.declared.memo.BranchMemos.{BranchMemos}
use Rattle.tpol_digest.specs.declared.memo.BranchMemos.TheVariants as memos
use Rattle.tpol_digest.specs.declared.memo.Memo.{Memo}
use Rattle.tpol_digest.specs.declared.memo.Memo.TheVariants as memo
use Rattle.tpol_tree.specs.declared.closed.ClosedElements.{ClosedElements}
use Rattle.tpol_tree.specs.declared.closed.ClosedElements.TheVariants.{More', End}
use Rattle.tpol_tree.specs.declared.closed.ClosedElement.{ClosedElement}
use Rattle.tpol_tree.specs.declared.closed.ClosedElement.TheVariants.{Or}
use Rattle.tpol_tree.specs.declared.closed.ClosedBranches.{ClosedBranches}
use Rattle.tpol_tree.specs.declared.closed.ClosedBranches.TheVariants.{More' as MoreBranches', End as EndBranches}

-- ---- what is kept first, and what behind it

abbrev pub IsEnd : Memo → Type 0
IsEnd memo.End = ⊤
IsEnd (memo.Plain' after p rest) = ⊥
IsEnd (memo.Or' after digests extent p branches q rest) = ⊥

abbrev pub IfPlain : Memo → (Digest32 → Type 0) → (Memo → Type 0) → Type 0
IfPlain memo.End First Rest = ⊥
IfPlain (memo.Plain' after p rest) First Rest = First after × Rest rest
IfPlain (memo.Or' after digests extent p branches q rest) First Rest = ⊥

abbrev pub IfOr : Memo → (Digest32 → List Digest32 → Option Extent → BranchMemos → Type 0) → (Memo → Type 0) → Type 0
IfOr memo.End First Rest = ⊥
IfOr (memo.Plain' after p rest) First Rest = ⊥
IfOr (memo.Or' after digests extent p branches q rest) First Rest = First after digests extent branches × Rest rest

abbrev pub IfMore : BranchMemos → (Memo → Type 0) → (BranchMemos → Type 0) → Type 0
IfMore memos.End First Rest = ⊥
IfMore (memos.More' p first q rest) First Rest = First first × Rest rest

-- ---- of elements, of one element with what is kept behind it, and of branches, where d is the digest before

abbrev mutual
  pub IsMemo : ClosedElements → Digest32 → Memo → Type 0
  IsMemo End d memo = IsEnd memo
  IsMemo (More' p element q rest) d memo = IsMemoOf element d memo (IsMemo rest (digest_at_element element d))

  pub IsMemoOf : ClosedElement → Digest32 → Memo → (Memo → Type 0) → Type 0
  IsMemoOf (Or branches) d memo Rest =
      IfOr memo (λ after digests extent memos. (after ≡ digest_at_element (Or branches) d) × (digests ≡ branch_digests branches d) × IfSome extent (IsOwnExtentOfBranches branches) × AreMemos branches d memos) Rest
  IsMemoOf element d memo Rest = IfPlain memo (λ after. after ≡ digest_at_element element d) Rest

  pub AreMemos : ClosedBranches → Digest32 → BranchMemos → Type 0
  AreMemos EndBranches d memos = ⊤
  AreMemos (MoreBranches' p name elements q rest) d memos = IfMore memos (IsMemo elements d) (AreMemos rest d)

-- ---- what is known with the digest before

abbrev pub Knows : Before → ClosedElements → Type 0
Knows before elements = IfSome before.memo (λ memo. IsMemo elements before.digest memo.now)

abbrev pub KnowsFirst : Before → ClosedElement → ClosedElements → Type 0
KnowsFirst before element rest =
    IfSome before.memo (λ memo. IsMemoOf element before.digest memo.now (IsMemo rest (digest_at_element element before.digest)))

abbrev pub KnowsBranches : BeforeBranches → ClosedBranches → Type 0
KnowsBranches before branches = IfSome before.memos (λ memos. AreMemos branches before.digest memos.now)

abbrev pub KnowsBranch : BeforeBranches → ClosedElements → ClosedBranches → Type 0
KnowsBranch before elements rest =
    IfSome before.memos (λ memos. IfMore memos.now (IsMemo elements before.digest) (AreMemos rest before.digest))

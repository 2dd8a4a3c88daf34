-- What is kept beside approved documents.
use Rattle.std.proofs.Common.{◌≡◌, List, ℕ}
use Rattle.std.proofs.lemmas.Slice.Zip.{AllZip-left}
use Rattle.std.specs.List.{AllZip, slice_get}
use Rattle.std.specs.Option.{MatchOption, IsSomeAnd}
use Rattle.std.specs.Prelude.{Some, ⊤}
use Rattle.tpol_digest.specs.Digest.{zero_digest}
use Rattle.tpol_digest.specs.Memos.{IsMemo}
use Rattle.tpol_digest.specs.declared.memo.Memo.{Memo}
use Rattle.tpol_tree.specs.declared.path.ApprovedDoc.{ApprovedDoc}

-- the digests at the index of a document are those of its policy
pub kept_at : (documents : List ApprovedDoc) (memos : List Memo) (i : ℕ) (document : ApprovedDoc) (memo : Memo) → AllZip (λ d m. IsMemo d.closed.elements zero_digest m) documents memos → slice_get documents i ≡ Some document → slice_get memos i ≡ Some memo → IsMemo document.closed.elements zero_digest memo
kept_at documents memos i document memo kept at at_memo =
    let both : MatchOption (slice_get documents i) ⊤ (λ (d : ApprovedDoc). IsSomeAnd (slice_get memos i) (λ (m : Memo). IsMemo d.closed.elements zero_digest m)) = AllZip-left {A = ApprovedDoc} {B = Memo} (λ d m. IsMemo d.closed.elements zero_digest m) documents memos kept i in
    rw (at, at_memo) at both

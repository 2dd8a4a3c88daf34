use Rattle.std.proofs.Common.{length, refl, arith}
use Rattle.std.proofs.lemmas.Option.{slice_get_read}
use Rattle.std.proofs.lemmas.Slice.Zip.{AllZip-long}
use Rattle.tpol_digest.specs.Digest.{zero_digest}
use Rattle.tpol_digest.specs.Memos.{IsMemo}
use Rattle.tpol_choose.proofs.Kept.{kept_at}
use Rattle.tpol_choose.proofs.walk.Walk.start_of.Goals as goal

pub bounds-memos-index : goal.bounds-memos-index
bounds-memos-index c =
    let long = AllZip-long (λ d m. IsMemo d.closed.elements zero_digest m) c.args.self.now.approvals.now c.in-Some.memos.now (rw c.in-Some.is at c.requires.kept) in
    omega (arith, long, c.requires.inside)

pub returns-in-Some-clause-knows : goal.returns-in-Some-clause-knows
returns-in-Some-clause-knows c = λ document at.
    let memos = c.in-Some.memos.now in
    let long = AllZip-long (λ d m. IsMemo d.closed.elements zero_digest m) c.args.self.now.approvals.now memos (rw c.in-Some.is at c.requires.kept) in
    let memo = slice_get_read memos (length memos) c.args.index c.index-memos-index.result refl (omega (arith, long, c.requires.inside)) c.index-memos-index.is in
    c.start.ensures.knows document.closed.elements (kept_at c.args.self.now.approvals.now memos c.args.index document c.index-memos-index.result (rw c.in-Some.is at c.requires.kept) at memo)

pub returns-in-None-clause-knows : goal.returns-in-None-clause-knows
returns-in-None-clause-knows c = λ document at. c.without_memo.ensures.knows document.closed.elements

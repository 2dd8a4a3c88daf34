use Rattle.std.proofs.lemmas.Slice.Zip.{all_zipped_more}
use Rattle.tpol_digest.specs.Digest.{zero_digest}
use Rattle.tpol_digest.specs.Memos.{IsMemo}
use Rattle.tpol_store.proofs.compiled.CompiledApprovals.push.Goals as goal

pub invariant_of-self-in-Ok-push : goal.invariant_of-self-in-Ok-push
invariant_of-self-in-Ok-push c =
    let more = all_zipped_more (λ d m. IsMemo d.closed.elements zero_digest m) c.self.inside.approvals c.self.inside.memos.items c.approval.inside.approved c.approval.inside.memo c.self.invariant c.approval.invariant in
    rw (c.in-Ok-push.ensures.ok, c.in-Ok.ensures.items) more

-- The digests of approved documents that are kept beside them.
use Rattle.std.specs.List.{AllZip}
use Rattle.std.specs.Prelude.{IfSome}
use Rattle.tpol_choose.specs.declared.walk.Walk.{Walk}
use Rattle.tpol_digest.specs.Digest.{zero_digest}
use Rattle.tpol_digest.specs.Memos.{IsMemo}

-- what a walk keeps of the digests of approved documents is known to be theirs
abbrev pub KnowsApproved : Walk → Type 0
KnowsApproved walk =
    IfSome walk.memos (λ memos. AllZip (λ document memo. IsMemo document.closed.elements zero_digest memo) walk.approvals.now memos.now)

use Rattle.std.proofs.Common.{ap, ◌∙◌}
use Rattle.tpol_digest.specs.Digest.{or_digest}
use Rattle.tpol_digest.proofs.moves.digest_after_move.Goals as goal

pub returns-in-Or : goal.returns-in-Or
returns-in-Or c = rw c.in-Or.is (c.or_digest.ensures.digest ∙ ap or_digest c.as_slice.ensures)

pub returns-in-Approve : goal.returns-in-Approve
returns-in-Approve c = rw c.in-Approve.is c.approve_digest.ensures.digest

pub returns-in-ApproveNv : goal.returns-in-ApproveNv
returns-in-ApproveNv c = rw c.in-ApproveNv.is c.approve_nv_digest.ensures.digest

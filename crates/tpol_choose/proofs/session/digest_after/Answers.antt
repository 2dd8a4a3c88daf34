use Rattle.tpol_choose.proofs.session.digest_after.Goals as goal

pub returns-in-Or : goal.returns-in-Or
returns-in-Or c = rw c.in-Or.is (λ state. c.in-Or.or.known)

pub returns-in-Approve : goal.returns-in-Approve
returns-in-Approve c = rw c.in-Approve.is (λ state. c.approve_digest.ensures.digest)

pub returns-in-ApproveNv : goal.returns-in-ApproveNv
returns-in-ApproveNv c = rw c.in-ApproveNv.is (λ state. c.approve_nv_digest.ensures.digest)

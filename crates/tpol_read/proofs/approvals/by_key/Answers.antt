use Rattle.std.proofs.Common.{refl}
use Rattle.tpol_read.specs.Approvals.{by_key}
use Rattle.tpol_read.proofs.approvals.by_key.Goals as goal

pub returns : goal.returns
unfolding by_key
returns c =
    rw (c.in_ok-key.ensures, c.in_ok-policy_ref.ensures, c.in_ok-signature.ensures, c.in_ok-note_unknown.ensures) refl

use Rattle.std.proofs.Common.{refl}
use Rattle.tpol_members.specs.Pcrs.{bank_in}
use Rattle.tpol_members.proofs.pcrs.bank.Goals as goal

pub returns : goal.returns
unfolding bank_in
returns c =
    rw (c.in_ok-check_object.ensures, c.in_ok-bank_member.ensures, c.in_ok-mask.ensures, c.in_ok-note_unknown.ensures) refl

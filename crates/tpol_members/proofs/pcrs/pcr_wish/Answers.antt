use Rattle.std.proofs.Common.{refl, rules}
use Rattle.tpol_members.specs.Pcrs.{pcrs_in}
use Rattle.tpol_members.proofs.pcrs.pcr_wish.Goals as goal

pub returns-in_err-wish : goal.returns-in_err-wish
unfolding pcrs_in
returns-in_err-wish c = rw (c.in_ok-position.ensures.first, ← c.member.ensures) (search rules)

pub returns-in_err-alone : goal.returns-in_err-alone
unfolding pcrs_in
returns-in_err-alone c = rw (c.in_ok-position.ensures.first, ← c.member.ensures, c.in_ok-wish.ensures) (search rules)

pub returns : goal.returns
unfolding pcrs_in
returns c = rw (c.in_ok-position.ensures.first, ← c.member.ensures, c.in_ok-wish.ensures, c.in_ok-alone.ensures) refl

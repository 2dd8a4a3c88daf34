use Rattle.std.proofs.Common.{refl}
use Rattle.tpol_elements.specs.Wishes.{names_in}
use Rattle.tpol_elements.proofs.wishes.names_wish.Goals as goal

pub returns : goal.returns
unfolding names_in
returns c = rw (c.in_ok-position.ensures.first, ← c.member.ensures, c.in_ok-wish.ensures, c.in_ok-alone.ensures) refl

use Rattle.std.proofs.Common.{sym, refl}
use Rattle.tpm_bindings.proofs.bindings.both_are.Goals as goal

pub returns-then-all_are : goal.returns-then-all_are
returns-then-all_are c xs ys h k =
    rw (sym (c.all_are.ensures xs h), c.if-all_are.true) (c.all_are-then-all_are.ensures ys k)

pub returns-else-all_are : goal.returns-else-all_are
returns-else-all_are c xs ys h k = rw (sym (c.all_are.ensures xs h), c.if-all_are.false) refl

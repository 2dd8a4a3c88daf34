use Rattle.std.proofs.Common.{rules}
use Rattle.tpol_members.proofs.Banks.{only_bank-longer}
use Rattle.tpol_members.proofs.pcrs.only_bank.Goals as goal

pub returns-in-len2-up : goal.returns-in-len2-up
returns-in-len2-up c =
    rw (only_bank-longer c.args.walk.now c.args.items.now c.args.place.now c.in-len2-up.len_at_least) (search rules)

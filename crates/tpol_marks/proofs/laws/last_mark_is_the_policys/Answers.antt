use Rattle.tpol_marks.proofs.LastMark.{last_is_policys}
use Rattle.tpol_marks.proofs.laws.last_mark_is_the_policys.Goals as goal

pub returns : goal.returns
returns c = last_is_policys

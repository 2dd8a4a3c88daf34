use Rattle.tpol_write.proofs.ReadBack.{numbers_back}
use Rattle.tpol_write.proofs.laws.numbers_read_back.Goals as goal

pub returns : goal.returns
returns c = numbers_back

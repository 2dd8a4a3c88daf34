use Rattle.tpol_write.proofs.ReadBack.{bytes_back}
use Rattle.tpol_write.proofs.laws.bytes_read_back.Goals as goal

pub returns : goal.returns
returns c = bytes_back

use Rattle.tpol_laws.proofs.BlindComes.{served-exactly, served-only}
use Rattle.tpol_laws.proofs.BlindEnds.{blind-ends}
use Rattle.tpol_laws.proofs.laws.blind_runs_are_served.Goals as goal

pub returns : goal.returns
returns c = record {
  exactly_on = λ run past turns position begins offsets chosen enough. served-exactly c.mirrored.ensures run begins offsets past turns position chosen enough;
  only = λ run past turns position bytes begins offsets over. served-only c.mirrored.ensures run begins offsets past turns position bytes over;
  ends = λ run past turns some enough. blind-ends c.blind_driving_ends.ensures run some past turns enough;
}

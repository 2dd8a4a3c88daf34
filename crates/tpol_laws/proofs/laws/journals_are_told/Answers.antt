use Rattle.tpol_laws.proofs.Decided.{generated-journal, scene-journal}
use Rattle.tpol_laws.proofs.laws.journals_are_told.Goals as goal

pub returns : goal.returns
returns c = record { scene = scene-journal; generated = generated-journal }

use Rattle.tpol_adopt.proofs.Frame.{leaves_others}
use Rattle.tpol_adopt.proofs.laws.others_stay.Goals as goal

pub returns : goal.returns
returns c = leaves_others

use Rattle.tpol_laws.proofs.Complete.{open-complete}
use Rattle.tpol_laws.proofs.laws.a_path_that_can_is_complete.Goals as goal

pub returns : goal.returns
returns c = open-complete

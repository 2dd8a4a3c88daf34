use Rattle.tpol_lint.proofs.Listed.{never_open}
use Rattle.tpol_lint.proofs.laws.dead_paths_never_open.Goals as goal

pub returns : goal.returns
returns c = never_open

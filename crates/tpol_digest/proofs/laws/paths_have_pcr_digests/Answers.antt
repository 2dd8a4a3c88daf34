use Rattle.tpol_digest.proofs.PathMoves as path_moves
use Rattle.tpol_digest.proofs.laws.paths_have_pcr_digests.Goals as goal

pub returns : goal.returns
returns c = path_moves.paths_have_pcr_digests

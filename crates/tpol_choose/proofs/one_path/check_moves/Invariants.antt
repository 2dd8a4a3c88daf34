use Rattle.tpol_choose.specs.Lent.{client_of_lent}
use Rattle.tpol_choose.proofs.OnWay.{IsOnWay}
use Rattle.tpol_choose.proofs.one_path.check_moves.Given as goal

abbrev pub invariant-loop-index : goal.invariant-loop-index
invariant-loop-index l = IsOnWay (client_of_lent l.client) l.moves l.index l.session

use Rattle.tpol_laws.proofs.EndsHeard.{goal-bad, goal-denied, move-bad, move-denied, start-bad, start-denied}
use Rattle.tpol_laws.proofs.laws.refusals_end_runs.Goals as goal

pub returns : goal.returns
returns c = record {
  start = start-denied;
  no_start = start-bad;
  moves = λ plan session sent done ticket act bytes rc at. move-denied session sent done ticket act plan at bytes rc;
  no_move = λ plan session sent done ticket act bytes at none. move-bad session sent done ticket act plan at bytes none;
  goal = λ plan session sent done ticket bytes rc at. goal-denied plan session sent ticket done at bytes rc;
  no_goal = λ plan session sent done ticket bytes at none. goal-bad plan session sent ticket done at bytes none;
}

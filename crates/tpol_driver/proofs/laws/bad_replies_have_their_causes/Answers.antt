use Rattle.tpol_driver.proofs.Causes.{bad_goal, bad_move, bad_restart, bad_start}
use Rattle.tpol_driver.proofs.laws.bad_replies_have_their_causes.Goals as goal

pub returns : goal.returns
returns c = record { start = bad_start; moves = bad_move; goal = bad_goal; restart = bad_restart }

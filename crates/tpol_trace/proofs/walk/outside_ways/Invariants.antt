use Rattle.std.proofs.Common.{◌≡◌, List}
use Rattle.std.specs.Prelude.{nat_lt}
use Rattle.tpol_tree.specs.declared.path.Move.{Move}
use Rattle.tpol_digest.specs.Digest.{zero_digest}
use Rattle.tpol_trace.specs.Tables.{AllAsk, IsWithin, move_of_element}
use Rattle.tpol_trace.proofs.Outside.{best_to}
use Rattle.tpol_trace.proofs.walk.outside_ways.Given as goal

abbrev pub invariant-loop-k : goal.invariant-loop-k
invariant-loop-k l =
    (moves : List Move) → AllAsk l.walk.facts.now moves → IsWithin l.behind → l.first ≡ best_to l.walk.approvals.now (nat_lt 0 l.walk.levels) (move_of_element l.element zero_digest) moves l.behind l.k

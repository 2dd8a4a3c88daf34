use Rattle.std.proofs.Common.{take}
use Rattle.tpol_tree.specs.Facts.{moves_of}
use Rattle.tpol_trace.specs.Tables.{AllAsk}
use Rattle.tpol_trace.proofs.open.asked_facts.Given as goal

abbrev pub invariant-loop-fact : goal.invariant-loop-fact
invariant-loop-fact l = AllAsk l.asked.items (moves_of (take l.fact-index l.facts))

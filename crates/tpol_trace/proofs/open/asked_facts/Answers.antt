use Rattle.std.proofs.Common.{◌+◌, ◌++◌, ◌∷◌, [], sym, subst, take}
use Rattle.tpol_tree.specs.Facts.{moves_of}
use Rattle.tpol_trace.specs.Tables.{AllAsk}
use Rattle.tpol_trace.proofs.FirstMatch.{moves_more}
use Rattle.tpol_trace.proofs.Steps.{ask_more}
use Rattle.tpol_trace.proofs.open.asked_facts.Goals as goal

pub loop-fact-preserved : goal.loop-fact-preserved
loop-fact-preserved c =
    let facts = c.args.facts.now in
    let i = c.loop-fact.fact-index in
    let fact = c.fact-item.result in
    let before = moves_of (take i facts) in
    let one = c.in_ok-of_move.field-0 in
    subst (λ asked. AllAsk asked (moves_of (take (i + 1) facts))) (sym c.in_ok-push.ensures.items) (subst (AllAsk (c.loop-fact.asked.items ++ one ∷ [])) (sym (moves_more facts i fact c.loop-fact-test.true c.fact-item.is)) (ask_more c.loop-fact.asked.items before one fact.act c.loop-fact.invariant c.in_ok-of_move.ensures))

use Rattle.tpol_top.proofs.ReadFirst.{compiled_after}
use Rattle.tpol_tree.specs.Erased.{erased_policy}
use Rattle.tpol_top.proofs.compile.compile.Goals as goal

pub returns-clause-answer : goal.returns-clause-answer
returns-clause-answer g c =
    compiled_after (g.H.Shelf.documents c.args.shelf.now) c.args.scene.now c.args.input.now (erased_policy c.in_ok-policy.policy) c.in_ok-policy.notes c.compile_read.result
    c.in_ok-policy.ensures.answer (rw c.as_slice.ensures at c.compile_read.ensures.answer)

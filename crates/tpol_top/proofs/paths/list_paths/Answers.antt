use Rattle.tpol_top.proofs.ReadFirst.{listed_after}
use Rattle.tpol_tree.specs.Erased.{erased_policy}
use Rattle.tpol_top.proofs.paths.list_paths.Goals as goal

pub returns-clause-answer : goal.returns-clause-answer
returns-clause-answer g c =
    listed_after c.args.view (g.H.Shelf.documents c.args.shelf.now) c.args.scene.now c.args.input.now (erased_policy c.in_ok-policy.policy) c.in_ok-policy._notes c.list_read.result
    c.in_ok-policy.ensures.answer c.list_read.ensures.answer

use Rattle.tpol_bridge.proofs.ReadFirst.{stepped_after}
use Rattle.tpol_bridge.specs.Exports.{seen}
use Rattle.tpol_bridge.proofs.steps.steps.Goals as goal

pub returns-clause-answer : goal.returns-clause-answer
returns-clause-answer g c =
    stepped_after c.args.position (g.H.Shelf.documents c.args.shelf.now) c.args.scene.now c.args.input.now (seen c.in_ok-export.export) c.tell_policy.result c.in_ok-export.ensures.answer c.tell_policy.ensures.answer

use Rattle.tpol_bridge.proofs.ReadFirst.{told_after}
use Rattle.tpol_bridge.specs.Exports.{seen}
use Rattle.tpol_bridge.proofs.digests.digests.Goals as goal

pub returns-clause-answer : goal.returns-clause-answer
returns-clause-answer g c =
    told_after (g.H.Shelf.documents c.args.shelf.now) c.args.scene.now c.args.input.now (seen c.in_ok-export.export) c.tell_with.result c.in_ok-export.ensures.answer c.tell_with.ensures.answer

use Rattle.tpol_store.specs.Stores.{policies_of}
use Rattle.tpol_prepare.specs.Scenario.{staged_of}
use Rattle.tpol_prepare.proofs.StagedScenes.{on_shelf}
use Rattle.tpol_prepare.proofs.scenario.policies_on_shelf.Goals as goal

pub returns-clause-answer : goal.returns-clause-answer
returns-clause-answer g c =
    on_shelf c.args.manner c.args.scene.now (staged_of c.args.manner c.args.scene.now) (g.H.Shelf.documents c.args.shelf.now) (policies_of c.in_ok-store.store) c.policies_of_scene.result
    c.in_ok-store.ensures.answer c.policies_of_scene.ensures.answer

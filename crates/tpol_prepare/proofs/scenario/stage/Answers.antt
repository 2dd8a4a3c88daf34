use Rattle.std.proofs.Common.{All}
use Rattle.std.proofs.lemmas.Result.{IfOk-weaker}
use Rattle.tpol_name.specs.Setups.{IsSetup}
use Rattle.tpol_prepare.specs.Scenario.{CanHappen, IsScenarioOf, erased_staged}
use Rattle.tpol_prepare.specs.Staged.{IsStaged}
use Rattle.tpol_prepare.proofs.StagedScenes.{events_can_happen, staged_few}
use Rattle.tpol_prepare.proofs.scenario.stage.Goals as goal

pub returns-in-Ok-clause-setup : goal.returns-in-Ok-clause-setup
returns-in-Ok-clause-setup g c = IfOk-weaker c.stage_scene.result IsStaged (λ staged. IsSetup staged.setup) (λ staged is. is.setup) c.stage_scene.ensures.staged

pub returns-in-Ok-clause-scenario : goal.returns-in-Ok-clause-scenario
returns-in-Ok-clause-scenario g c =
    IfOk-weaker c.stage_scene.result IsStaged (λ staged. IsScenarioOf staged.setup staged.scenario) (λ staged is. is.scenario) c.stage_scene.ensures.staged

pub returns-in-Ok-clause-happens : goal.returns-in-Ok-clause-happens
returns-in-Ok-clause-happens g c = IfOk-weaker c.stage_scene.result IsStaged (λ staged. All CanHappen staged.script) events_can_happen c.stage_scene.ensures.staged

pub returns-in-Ok-clause-answer : goal.returns-in-Ok-clause-answer
returns-in-Ok-clause-answer g c =
    staged_few c.args.manner c.args.input.now c.in_ok-scene.scene c.way.result c.as_slice.result.now erased_staged (g.H.Shelf.documents c.args.shelf.now) c.stage_scene.result
    c.in_ok-scene.ensures.answer c.way.ensures c.as_slice.ensures c.in-Ok.ensures.answer c.stage_scene.ensures.answer

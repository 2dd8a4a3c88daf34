use Rattle.tpol_prepare.proofs.scenario.stage_scene.Goals as goal

pub returns-in-Ok-clause-answer : goal.returns-in-Ok-clause-answer
returns-in-Ok-clause-answer g c = rw c.staged.ensures c.in-Ok.ensures.answer

pub returns-in-Ok-clause-staged : goal.returns-in-Ok-clause-staged
returns-in-Ok-clause-staged g c = rw c.staged.ensures c.in-Ok.ensures.staged

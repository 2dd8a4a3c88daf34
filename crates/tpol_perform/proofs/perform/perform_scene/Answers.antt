use Rattle.tpol_perform.proofs.ExplainedErased.{staged_explained}
use Rattle.tpol_perform.proofs.perform.perform_scene.Goals as goal

pub returns-clause-explained : goal.returns-clause-explained
returns-clause-explained g c =
    λ tells done.
    staged_explained c.args.manner (g.H.Shelf.documents c.args.shelf.now) c.args.input.now c.in_ok-staged.staged c.in_ok-performance_answer.field-0 tells
    c.in_ok-staged.ensures.answer c.in_ok-staged.ensures.staged c.in_ok-performance_answer.ensures

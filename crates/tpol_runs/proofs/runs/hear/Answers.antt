use Rattle.std.proofs.Common.{◌∙◌, ap, sym}
use Rattle.tpol_runs.specs.Courses.{end_told, heard_by}
use Rattle.tpol_runs.proofs.Outcomes.{if_ok}
use Rattle.tpol_runs.proofs.runs.hear.Goals as goal

-- the run that is handed over is the one that was there
pub returns-clause-told : goal.returns-clause-told
returns-clause-told c =
    let was = sym c.in-Some.is ∙ (c.replace.ensures.value ∙ c.in_ok-step.ensures.same c.if-branch.false) in
    if_ok c.hand-after.result.1
    (λ told h. h ∙ ap (λ run. end_told (heard_by run c.args.reset_count c.args.reply.now)) was) c.hand-after.ensures.told

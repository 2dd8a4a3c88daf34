use Rattle.std.proofs.Common.{◌∙◌, ap, ℕ, List, ◌++◌}
use Rattle.tpol_steps.specs.declared.answer.Answer.{Answer}
use Rattle.tpol_steps.specs.declared.answer.Verdict.TheVariants.{Done}
use Rattle.tpol_steps.specs.declared.filled.FilledDocument.{FilledDocument}
use Rattle.tpol_tree.specs.declared.closed.Closed.{Closed}
use Rattle.tpol_generate.specs.Generate.{generated_answer, generated_head, generated_performance, generated_run_lines}
use Rattle.tpol_generate.proofs.generate.generated_answer.Goals as goal

abbrev told : List (List ℕ) → Answer
told lines = record { lines = lines; verdict = Done }

pub returns : goal.returns
unfolding generated_answer
returns c =
    let same = ap (λ (document : FilledDocument). document.closed) c.in_ok-document.ensures in
    ap told (c.in_ok-push_run.ensures
    ∙ ap (λ (head : List (List ℕ)). head ++ generated_run_lines (generated_performance c.args.order c.in_ok-document.document.closed)) c.in-Ok.ensures
    ∙ ap (λ (closed : Closed). generated_head c.args.ors c.args.order closed ++ generated_run_lines (generated_performance c.args.order closed)) same)

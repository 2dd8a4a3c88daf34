use Rattle.std.proofs.Common.{Err, Some, ap, sym, ◌∙◌}
use Rattle.tpol_steps.proofs.PathSteps.{few_enough, too_many_to_try}
use Rattle.tpol_steps.proofs.limits.check_few.Goals as goal

pub returns-then-count_paths-gt-MOST_TRIED-clause-answer : goal.returns-then-count_paths-gt-MOST_TRIED-clause-answer
returns-then-count_paths-gt-MOST_TRIED-clause-answer c =
    too_many_to_try (Some c.args.document.now.name) c.args.document.now.closed c.args.approvals.now c.count_paths.result c.count_paths.ensures c.if-count_paths-gt-MOST_TRIED.true
    ∙ ap Err (sym c.in_ok-path_limit.ensures)

pub returns-clause-answer : goal.returns-clause-answer
returns-clause-answer c =
    few_enough (Some c.args.document.now.name) c.args.document.now.closed c.args.approvals.now c.count_paths.result c.count_paths.ensures c.if-count_paths-gt-MOST_TRIED.false

use Rattle.std.proofs.Common.{Err, ap, sym, ◌∙◌}
use Rattle.std.specs.Option.{option_copied}
use Rattle.tpol_digest.specs.Paths.{paths_of}
use Rattle.tpol_steps.proofs.LimitTests.{any_too_long}
use Rattle.tpol_steps.proofs.PathSteps.{too_long, too_many, within}
use Rattle.tpol_steps.proofs.limits.check_limits.Goals as goal

pub returns-in-Ok-clause-answer : goal.returns-in-Ok-clause-answer
returns-in-Ok-clause-answer c =
    within (option_copied c.args.document) c.args.closed.now c.args.approvals.now c.in-Ok.ensures.within

pub returns-in_ok-path_limit-in-Err-TooManyPaths-clause-answer : goal.returns-in_ok-path_limit-in-Err-TooManyPaths-clause-answer
returns-in_ok-path_limit-in-Err-TooManyPaths-clause-answer c =
    let refused = c.in-Err-TooManyPaths.is ∙ ap Err c.in-Err-TooManyPaths.field-0-is in
    too_many (option_copied c.args.document) c.args.closed.now c.args.approvals.now (c.check_paths.ensures.too_many.0 refused)
    ∙ ap Err (sym c.in_ok-path_limit-in-Err-TooManyPaths.ensures)

pub returns-in_ok-path_limit-in-Err-TooLong-clause-answer : goal.returns-in_ok-path_limit-in-Err-TooLong-clause-answer
returns-in_ok-path_limit-in-Err-TooLong-clause-answer c =
    let refused = c.in-Err-TooLong.is ∙ ap Err c.in-Err-TooLong.field-0-is in
    let found = c.check_paths.ensures.too_long.0 refused in
    too_long (option_copied c.args.document) c.args.closed.now c.args.approvals.now found.0 (any_too_long (paths_of c.args.closed.now c.args.approvals.now) found.1)
    ∙ ap Err (sym c.in_ok-path_limit-in-Err-TooLong.ensures)

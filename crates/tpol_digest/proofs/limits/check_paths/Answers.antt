use Rattle.tpol_digest.proofs.Refusals.{past_paths, past_moves, within_limits, are_within_limits, number_of_paths}
use Rattle.tpol_digest.proofs.limits.check_paths.Goals as goal

pub returns-then-extent-gt-MAX_PATHS-clause-too_many : goal.returns-then-extent-gt-MAX_PATHS-clause-too_many
returns-then-extent-gt-MAX_PATHS-clause-too_many c =
    (past_paths c.args.policy.now c.args.approvals.now c.as_slice.result.now c.as_slice.ensures c.extent_of_elements-extent.result c.extent_of_elements-extent.ensures c.if-extent-gt-MAX_PATHS.true).0

pub returns-then-extent-gt-MAX_PATHS-clause-too_long : goal.returns-then-extent-gt-MAX_PATHS-clause-too_long
returns-then-extent-gt-MAX_PATHS-clause-too_long c =
    (past_paths c.args.policy.now c.args.approvals.now c.as_slice.result.now c.as_slice.ensures c.extent_of_elements-extent.result c.extent_of_elements-extent.ensures c.if-extent-gt-MAX_PATHS.true).1

pub returns-then-extent-gt-MAX_MOVES-clause-too_many : goal.returns-then-extent-gt-MAX_MOVES-clause-too_many
returns-then-extent-gt-MAX_MOVES-clause-too_many c =
    (past_moves c.args.policy.now c.args.approvals.now c.as_slice.result.now c.as_slice.ensures c.extent_of_elements-extent.result c.extent_of_elements-extent.ensures c.if-extent-gt-MAX_PATHS.false c.if-extent-gt-MAX_MOVES.true).0

pub returns-then-extent-gt-MAX_MOVES-clause-too_long : goal.returns-then-extent-gt-MAX_MOVES-clause-too_long
returns-then-extent-gt-MAX_MOVES-clause-too_long c =
    (past_moves c.args.policy.now c.args.approvals.now c.as_slice.result.now c.as_slice.ensures c.extent_of_elements-extent.result c.extent_of_elements-extent.ensures c.if-extent-gt-MAX_PATHS.false c.if-extent-gt-MAX_MOVES.true).1

pub returns-clause-number : goal.returns-clause-number
returns-clause-number c =
    number_of_paths c.args.policy.now c.args.approvals.now c.as_slice.result.now c.as_slice.ensures c.extent_of_elements-extent.result c.extent_of_elements-extent.ensures c.if-extent-gt-MAX_PATHS.false

pub returns-clause-within : goal.returns-clause-within
returns-clause-within c =
    are_within_limits c.args.policy.now c.args.approvals.now c.as_slice.result.now c.as_slice.ensures c.extent_of_elements-extent.result c.extent_of_elements-extent.ensures c.if-extent-gt-MAX_PATHS.false c.if-extent-gt-MAX_MOVES.false

pub returns-clause-too_many : goal.returns-clause-too_many
returns-clause-too_many c =
    (within_limits c.args.policy.now c.args.approvals.now c.as_slice.result.now c.as_slice.ensures c.extent_of_elements-extent.result c.extent_of_elements-extent.ensures c.extent_of_elements-extent.result.paths c.if-extent-gt-MAX_PATHS.false c.if-extent-gt-MAX_MOVES.false).0

pub returns-clause-too_long : goal.returns-clause-too_long
returns-clause-too_long c =
    (within_limits c.args.policy.now c.args.approvals.now c.as_slice.result.now c.as_slice.ensures c.extent_of_elements-extent.result c.extent_of_elements-extent.ensures c.extent_of_elements-extent.result.paths c.if-extent-gt-MAX_PATHS.false c.if-extent-gt-MAX_MOVES.false).1

use Rattle.tpol_digest.proofs.Refusals.{counted_paths}
use Rattle.tpol_digest.proofs.limits.count_paths.Goals as goal

pub returns : goal.returns
returns c =
    counted_paths c.args.policy.now c.args.approvals.now c.as_slice.result.now c.as_slice.ensures c.extent_of_elements.result c.extent_of_elements.ensures

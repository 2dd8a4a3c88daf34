use Rattle.std.proofs.Common.{◌+◌, ◌*◌, take}
use Rattle.tpol_digest.proofs.Shares.{share}
use Rattle.tpol_digest.proofs.Weights.{weight, weight_of_branches}
use Rattle.tpol_digest.specs.Images.{both, documents_images}
use Rattle.tpol_lint.proofs.Loads.{load}
use Rattle.tpol_lint.specs.Traces.{Finds, IsTrack, Trace, join, step_trace, trace_of, traces_ahead}
use Rattle.tpol_lint.proofs.walk.+walk.Given as goal

abbrev pub decreases-find_ahead : goal.decreases-find_ahead
decreases-find_ahead l = load l.scope.now.approvals.now l.ahead.now

abbrev pub decreases-find_in_approvals : goal.decreases-find_in_approvals
decreases-find_in_approvals l = 2 * share l.scope.now.approvals.now l.scope.now.levels + load l.scope.now.approvals.now l.ahead.now

abbrev pub decreases-find_in_branches : goal.decreases-find_in_branches
decreases-find_in_branches l =
    4 * (weight_of_branches l.branches.now * share l.scope.now.approvals.now l.scope.now.levels) + load l.scope.now.approvals.now l.ahead.now

abbrev pub decreases-find_in_elements : goal.decreases-find_in_elements
decreases-find_in_elements l =
    4 * (weight l.elements.now * share l.scope.now.approvals.now l.scope.now.levels) + load l.scope.now.approvals.now l.ahead.now

abbrev pub invariant-find_in_approvals-loop-document : goal.invariant-find_in_approvals-loop-document
invariant-find_in_approvals-loop-document l =
    (before : Trace) → IsTrack l.track before → Finds l.initial.finder l.finder before
    (both join (documents_images trace_of join step_trace l.scope.approvals.now l.scope.levels l.element (take l.document-index l.scope.approvals.now)) (traces_ahead l.scope.approvals.now l.ahead))

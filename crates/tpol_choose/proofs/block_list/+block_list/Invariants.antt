use Rattle.std.proofs.Common.{◌≡◌, ◌+◌, ◌-◌, ◌*◌, ◌++◌, drop}
use Rattle.tpol_digest.specs.Paths.{approved_paths, document_paths}
use Rattle.tpol_digest.proofs.Weights.{weight, weight_of_element, weight_of_branches}
use Rattle.tpol_choose.specs.BlockLists.{blocks_of, blocks_rest}
use Rattle.tpol_choose.specs.Lent.{client_of_lent}
use Rattle.tpol_choose.specs.Tracks.{IsTrack, TrackState}
use Rattle.tpol_choose.proofs.Loads.{share, load}
use Rattle.tpol_choose.proofs.block_list.+block_list.Given as goal

abbrev pub decreases-push_elements : goal.decreases-push_elements
decreases-push_elements l =
    4 * (weight l.elements.now * share l.walk.now.approvals.now l.walk.now.levels) + load l.walk.now.approvals.now l.ahead.now

abbrev pub decreases-push_element : goal.decreases-push_element
decreases-push_element l =
    4 * ((weight_of_element l.element.now + weight l.rest.now) * share l.walk.now.approvals.now l.walk.now.levels) + load l.walk.now.approvals.now l.ahead.now

abbrev pub decreases-push_or : goal.decreases-push_or
decreases-push_or l =
    (4 * ((weight_of_branches l.branches.now + 1 + weight l.rest.now) * share l.walk.now.approvals.now l.walk.now.levels) + load l.walk.now.approvals.now l.ahead.now) - 1

abbrev pub decreases-push_branches : goal.decreases-push_branches
decreases-push_branches l =
    4 * (weight_of_branches l.branches.now * share l.walk.now.approvals.now l.walk.now.levels) + load l.walk.now.approvals.now l.ahead.now

abbrev pub decreases-push_approvals : goal.decreases-push_approvals
decreases-push_approvals l =
    (3 * share l.walk.now.approvals.now l.walk.now.levels + 4 * (weight l.rest.now * share l.walk.now.approvals.now l.walk.now.levels)) + load l.walk.now.approvals.now l.ahead.now

abbrev pub decreases-push_documents : goal.decreases-push_documents
decreases-push_documents l =
    (2 * share l.walk.now.approvals.now l.walk.now.levels + 4 * (weight l.rest.now * share l.walk.now.approvals.now l.walk.now.levels)) + load l.walk.now.approvals.now l.ahead.now

abbrev pub decreases-push_ahead : goal.decreases-push_ahead
decreases-push_ahead l = load l.walk.now.approvals.now l.ahead.now

-- the blocks of all documents are those so far, and those of the documents that are left
abbrev pub invariant-push_documents-loop-index : goal.invariant-push_documents-loop-index
invariant-push_documents-loop-index l =
    let documents = l.walk.approvals.now in
    let levels = l.walk.levels in
    let client = client_of_lent l.walk.client.now in
    let behind = blocks_rest client documents levels l.rest l.after.digest l.ahead in
    (state : TrackState) → IsTrack l.track state → l.initial.found.items ++ blocks_of client behind state (approved_paths (document_paths documents levels) documents l.element) ≡ l.found.items ++ blocks_of client behind state (approved_paths (document_paths documents levels) (drop l.index documents) l.element)

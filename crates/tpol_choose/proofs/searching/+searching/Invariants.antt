use Rattle.std.proofs.Common.{◌≡◌, ◌+◌, ◌-◌, ◌*◌, drop}
use Rattle.tpol_digest.specs.Paths.{approved_paths, document_paths}
use Rattle.tpol_digest.proofs.Weights.{weight, weight_of_element, weight_of_branches}
use Rattle.tpol_choose.specs.Lent.{client_of_lent}
use Rattle.tpol_choose.specs.Searches.{search_rest, search_ways}
use Rattle.tpol_choose.specs.Tracks.{IsTrack, TrackState}
use Rattle.tpol_choose.proofs.Loads.{share, load}
use Rattle.tpol_choose.proofs.searching.+searching.Given as goal

abbrev pub decreases-search_elements : goal.decreases-search_elements
decreases-search_elements l =
    4 * (weight l.elements.now * share l.walk.now.approvals.now l.walk.now.levels) + load l.walk.now.approvals.now l.ahead.now

abbrev pub decreases-search_element : goal.decreases-search_element
decreases-search_element l =
    4 * ((weight_of_element l.element.now + weight l.rest.now) * share l.walk.now.approvals.now l.walk.now.levels) + load l.walk.now.approvals.now l.ahead.now

abbrev pub decreases-search_or : goal.decreases-search_or
decreases-search_or l =
    (4 * ((weight_of_branches l.branches.now + 1 + weight l.rest.now) * share l.walk.now.approvals.now l.walk.now.levels) + load l.walk.now.approvals.now l.ahead.now) - 1

abbrev pub decreases-search_branches : goal.decreases-search_branches
decreases-search_branches l =
    4 * (weight_of_branches l.branches.now * share l.walk.now.approvals.now l.walk.now.levels) + load l.walk.now.approvals.now l.ahead.now

abbrev pub decreases-search_approvals : goal.decreases-search_approvals
decreases-search_approvals l =
    (3 * share l.walk.now.approvals.now l.walk.now.levels + 4 * (weight l.rest.now * share l.walk.now.approvals.now l.walk.now.levels)) + load l.walk.now.approvals.now l.ahead.now

abbrev pub decreases-search_documents : goal.decreases-search_documents
decreases-search_documents l =
    (2 * share l.walk.now.approvals.now l.walk.now.levels + 4 * (weight l.rest.now * share l.walk.now.approvals.now l.walk.now.levels)) + load l.walk.now.approvals.now l.ahead.now

abbrev pub decreases-search_ahead : goal.decreases-search_ahead
decreases-search_ahead l = load l.walk.now.approvals.now l.ahead.now

-- what is looked for among all documents is looked for among those that are left
abbrev pub invariant-search_documents-loop-index : goal.invariant-search_documents-loop-index
invariant-search_documents-loop-index l =
    let documents = l.walk.approvals.now in
    let levels = l.walk.levels in
    let client = client_of_lent l.walk.client.now in
    let behind = search_rest client documents levels l.rest l.after.digest l.ahead in
    (state : TrackState) → IsTrack l.track state → search_ways client behind state l.fn.passed (approved_paths (document_paths documents levels) documents l.element) ≡ search_ways client behind state l.so_far (approved_paths (document_paths documents levels) (drop l.index documents) l.element)

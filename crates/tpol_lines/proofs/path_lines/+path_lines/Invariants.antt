use Rattle.std.proofs.Common.{◌+◌, ◌*◌, take}
use Rattle.tpol_digest.proofs.Weights.{weight, weight_of_element, weight_of_branches}
use Rattle.tpol_lines.specs.Texts.{both, document_texts, texts_ahead, Writes}
use Rattle.tpol_digest.proofs.Shares.{share}
use Rattle.tpol_lines.proofs.Loads.{load}
use Rattle.tpol_lines.proofs.path_lines.+path_lines.Given as goal

abbrev pub decreases-write_elements : goal.decreases-write_elements
decreases-write_elements l =
    4 * (weight l.elements.now * share l.shelf.now.approvals.now l.levels) + load l.shelf.now.approvals.now l.ahead.now

abbrev pub decreases-write_element : goal.decreases-write_element
decreases-write_element l =
    4 * ((weight_of_element l.element.now + weight l.rest.now) * share l.shelf.now.approvals.now l.levels) + load l.shelf.now.approvals.now l.ahead.now

abbrev pub decreases-write_branches : goal.decreases-write_branches
decreases-write_branches l =
    4 * (weight_of_branches l.branches.now * share l.shelf.now.approvals.now l.levels) + load l.shelf.now.approvals.now l.ahead.now

abbrev pub decreases-write_approvals : goal.decreases-write_approvals
decreases-write_approvals l = 2 * share l.shelf.now.approvals.now l.levels + load l.shelf.now.approvals.now l.ahead.now

abbrev pub decreases-write_ahead : goal.decreases-write_ahead
decreases-write_ahead l = load l.shelf.now.approvals.now l.ahead.now

abbrev pub invariant-write_approvals-loop-document : goal.invariant-write_approvals-loop-document
invariant-write_approvals-loop-document l =
    Writes l.shelf.form l.initial.pen l.pen (both (document_texts l.shelf.approvals.now l.levels l.element (take l.document-index l.shelf.approvals.now)) (texts_ahead l.shelf.approvals.now l.ahead))

use Rattle.std.proofs.Common.{◌≡◌, drop}
use Rattle.tpol_tree.specs.declared.path.Move.{Move}
use Rattle.tpol_digest.specs.Digest.{zero_digest}
use Rattle.tpol_trace.specs.Matching.{is_listed}
use Rattle.tpol_trace.specs.Tables.{Asks, move_of_element}
use Rattle.tpol_trace.proofs.walk.is_listed.Given as goal

abbrev pub invariant-loop-document : goal.invariant-loop-document
invariant-loop-document l =
    (approving : Move) → Asks l.fact approving → is_listed (drop l.document-index l.walk.approvals.now) (move_of_element l.element zero_digest) approving ≡ is_listed l.walk.approvals.now (move_of_element l.element zero_digest) approving

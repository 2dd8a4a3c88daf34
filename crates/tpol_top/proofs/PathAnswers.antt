-- The lines of a policy's paths, whichever memory the policy lies in.
use Rattle.std.proofs.Common.{◌≡◌, List, map}
use Rattle.tpol_digest.specs.Paths.{paths_of}
use Rattle.tpol_digest.proofs.Erasures.{paths_ignore_boxes}
use Rattle.tpol_tree.specs.ClosedErased.{erased, erased_document}
use Rattle.tpol_steps.proofs.FilledErased.{policy_digest_erased}
use Rattle.tpol_top.specs.Paths.{dead_answer, path_answer}
use Rattle.tpol_tree.specs.declared.closed.Closed.{Closed}
use Rattle.tpol_tree.specs.declared.path.ApprovedDoc.{ApprovedDoc}

pub path_answer_erased : (closed : Closed) (approvals : List ApprovedDoc) → path_answer (erased closed) (paths_of (erased closed) (map erased_document approvals)) ≡ path_answer closed (paths_of closed approvals)
path_answer_erased closed approvals = rw (paths_ignore_boxes closed approvals, policy_digest_erased closed)

pub dead_answer_erased : (closed : Closed) (approvals : List ApprovedDoc) → dead_answer (paths_of (erased closed) (map erased_document approvals)) ≡ dead_answer (paths_of closed approvals)
dead_answer_erased closed approvals = rw (paths_ignore_boxes closed approvals)

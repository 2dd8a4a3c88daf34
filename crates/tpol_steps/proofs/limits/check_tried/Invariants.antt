use Rattle.std.proofs.Common.{◌≡◌, ◌<◌, ℕ, ◌≤◌, drop, get_or, length, map}
use Rattle.tpol_digest.specs.Limits.{AreWithinLimits}
use Rattle.tpol_digest.specs.Paths.{paths_of}
use Rattle.tpol_tree.specs.ClosedErased.{erased_document}
use Rattle.tpol_steps.specs.declared.filled.FilledDocument.{FilledDocument}
use Rattle.tpol_steps.specs.Filled.{erased_filled}
use Rattle.tpol_steps.specs.Limits.{tried_limits_step}
use Rattle.tpol_steps.proofs.limits.check_tried.Given as goal

-- the documents to come decide, and the paths of those so far are few and within the limits
abbrev pub invariant-loop-document : goal.invariant-loop-document
invariant-loop-document l = record {
  answer : tried_limits_step (map erased_document l.approvals) (map erased_filled (drop l.document-index l.documents))
      ≡ tried_limits_step (map erased_document l.approvals) (map erased_filled l.documents);
  within : (k : ℕ) (d : FilledDocument) → k < l.document-index → AreWithinLimits (paths_of (get_or l.documents k d).closed l.approvals);
  few : (k : ℕ) (d : FilledDocument) → k < l.document-index → length (paths_of (get_or l.documents k d).closed l.approvals) ≤ 64;
}

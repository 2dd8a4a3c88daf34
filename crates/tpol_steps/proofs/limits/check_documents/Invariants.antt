use Rattle.std.proofs.Common.{◌≡◌, ◌<◌, ℕ, drop, get_or, map}
use Rattle.tpol_digest.specs.Limits.{AreWithinLimits}
use Rattle.tpol_digest.specs.Paths.{paths_of}
use Rattle.tpol_tree.specs.ClosedErased.{erased_document}
use Rattle.tpol_steps.specs.declared.filled.FilledDocument.{FilledDocument}
use Rattle.tpol_steps.specs.Filled.{erased_filled}
use Rattle.tpol_steps.specs.Limits.{limits_step}
use Rattle.tpol_steps.proofs.limits.check_documents.Given as goal

-- the documents to come decide, and the paths of those so far are within the limits
abbrev pub invariant-loop-document : goal.invariant-loop-document
invariant-loop-document l = record {
  answer : limits_step (map erased_document l.approvals) (map erased_filled (drop l.document-index l.documents))
      ≡ limits_step (map erased_document l.approvals) (map erased_filled l.documents);
  within : (k : ℕ) (d : FilledDocument) → k < l.document-index → AreWithinLimits (paths_of (get_or l.documents k d).closed l.approvals);
}

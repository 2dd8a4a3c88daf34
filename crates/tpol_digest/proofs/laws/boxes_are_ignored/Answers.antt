use Rattle.tpol_digest.proofs.Erasures as erasures
use Rattle.tpol_digest.proofs.laws.boxes_are_ignored.Goals as goal

pub returns : goal.returns
returns c = record {
  digests = erasures.digests_ignore_boxes;
  paths = erasures.paths_ignore_boxes;
  inputs = erasures.inputs_ignore_boxes;
  well_formed = erasures.well_formed_ignores_boxes;
  branch_counts = erasures.branch_counts_ignore_boxes;
}

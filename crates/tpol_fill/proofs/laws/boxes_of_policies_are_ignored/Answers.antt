use Rattle.tpol_fill.proofs.FilledErased.{faults_ignore_boxes, filled_ignores_boxes}
use Rattle.tpol_fill.proofs.laws.boxes_of_policies_are_ignored.Goals as goal

pub returns : goal.returns
returns c = record { filled = filled_ignores_boxes; faults = faults_ignore_boxes }

use Rattle.serde_json.specs.Data.{depth}
use Rattle.serde_json.specs.View.{view}
use Rattle.tpol_elements.proofs.publics.+index_within.Given as goal

abbrev pub decreases-index_within : goal.decreases-index_within
decreases-index_within l = depth (view l.value.now)

use Rattle.serde_json.specs.Data.{depth}
use Rattle.serde_json.specs.View.{view}
use Rattle.tpol_elements.proofs.publics.+object_within.Given as goal

abbrev pub decreases-object_within : goal.decreases-object_within
decreases-object_within l = depth (view l.value.now)

use Rattle.serde_json.specs.View.{view}
use Rattle.tpol_adopt.proofs.Depths.{nests}
use Rattle.tpol_adopt.proofs.walk.normal.Goals as goal

pub returns-clause-nests : goal.returns-clause-nests
returns-clause-nests c = nests c.within.result (view c.args.value.now) c.within.ensures

use Rattle.std.proofs.Common.{◌∙◌}
use Rattle.tpol_goal.proofs.Directories.{entity_of_lines}
use Rattle.tpol_goal.proofs.entities.entity_in_sight.Goals as goal

pub returns : goal.returns
returns c =
    record {
      entity = c.find_entity.ensures;
      directory = c.find_entity.ensures ∙ entity_of_lines c.args.sight.now c.args.name.now;
    }

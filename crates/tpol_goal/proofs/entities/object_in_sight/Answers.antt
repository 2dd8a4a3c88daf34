use Rattle.std.proofs.Common.{ap, ◌∙◌}
use Rattle.std.specs.Prelude.{option_map}
use Rattle.tpol_name.specs.Directories.{line_of_object}
use Rattle.tpol_goal.proofs.Directories.{object_of_lines}
use Rattle.tpol_goal.proofs.entities.object_in_sight.Goals as goal

pub returns : goal.returns
returns c =
    record {
      object = c.find_object.ensures;
      directory = λ h. ap (option_map line_of_object) c.find_object.ensures ∙ object_of_lines c.args.sight.now c.args.name.now h;
    }

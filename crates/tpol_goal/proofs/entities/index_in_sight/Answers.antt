use Rattle.std.proofs.Common.{ap, ◌∙◌}
use Rattle.std.specs.Prelude.{option_map}
use Rattle.tpol_name.specs.Directories.{line_of_index}
use Rattle.tpol_goal.proofs.Directories.{index_of_lines}
use Rattle.tpol_goal.proofs.entities.index_in_sight.Goals as goal

pub returns : goal.returns
returns c =
    record {
      index = c.find_index.ensures;
      directory = λ h. ap (option_map line_of_index) c.find_index.ensures ∙ index_of_lines c.args.sight.now c.args.name.now h;
    }

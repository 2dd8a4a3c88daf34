use Rattle.std.proofs.Common.{sym, ◌∙◌}
use Rattle.tpol_goal.specs.Commands.{any_area}
use Rattle.tpol_goal.proofs.SameHashes.{name_hash-by_parts}
use Rattle.tpol_goal.proofs.goal.Goal.name_hash.Goals as goal

-- the Names that were put, in order, are the message
pub returns : goal.returns
returns g c =
    let held = c.put_names.ensures _ c.new-hasher.ensures.empty in
    record {
      hash = c.done.ensures.digest _ held ∙ sym (name_hash-by_parts (g.N.Naming.naming c.args.names.now) c.args.self.now any_area);
    }

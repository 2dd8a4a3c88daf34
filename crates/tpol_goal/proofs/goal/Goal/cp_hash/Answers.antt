use Rattle.std.proofs.Common.{◌++◌, ap, sym, ◌∙◌}
use Rattle.std.specs.Int.{to_be_bytes, w32}
use Rattle.tpol_base.specs.CommandCode.{number_of_code}
use Rattle.tpol_hash.specs.Sha256.{sha256_digest}
use Rattle.tpol_goal.specs.Commands.{any_area, parameters_of_goal}
use Rattle.tpol_goal.specs.Goals.{handles_of_goal}
use Rattle.tpol_goal.proofs.SameHashes.{cp_hash-by_parts}
use Rattle.tpol_goal.proofs.goal.Goal.cp_hash.Goals as goal
use Rattle.tpol_wire.specs.Hashes.{joined_names}

-- the pieces that were put, in order, are the message
pub returns : goal.returns
returns g c =
    let goal = c.args.self.now in
    let naming = g.N.Naming.naming c.args.names.now in
    let held = c.put_parameters.ensures _ (c.put_names.ensures _ (c.put.ensures.longer _ c.new-hasher.ensures.empty)) in
    record {
      hash =
          c.done.ensures.digest _ held
          ∙ ap (λ code. sha256_digest (code ++ joined_names naming (handles_of_goal goal) ++ parameters_of_goal goal))
          (c.to_be_bytes.ensures ∙ ap (to_be_bytes w32) (c.number.ensures ∙ ap number_of_code c.code.ensures.code))
          ∙ sym (cp_hash-by_parts naming goal any_area);
    }

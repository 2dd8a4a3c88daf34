use Rattle.std.proofs.Common.{◌∙◌, sym, ap}
use Rattle.tpm_world.specs.Plain as spec
use Rattle.tpm_world.proofs.world.World.carry_out.Goals as goal

pub returns-in-NvIncrement : goal.returns-in-NvIncrement
returns-in-NvIncrement c = record {
  world = c.carry_out-in-NvIncrement.ensures.world ∙ sym (ap (spec.world_after c.args.self.now) c.in-NvIncrement.is);
}

use Rattle.std.proofs.Common.{sym, subst}
use Rattle.std.specs.Prelude.{IsSome}
use Rattle.tpm_nv.specs.Indices.{index_of}
use Rattle.tpm_world.specs.WorldView.{state_of}
use Rattle.tpm_world.proofs.NamesKept.{names_after_write}
use Rattle.tpm_world.proofs.WorldLemmas.{world_written}
use Rattle.tpm_world.proofs.world.World.write.Goals as goal

pub invariant_of-self : goal.invariant_of-self
invariant_of-self c = record {
  world =
      world_written (state_of c.self.inside) c.args.index c.args.offset c.args.bytes.now c.write.result c.write.new.self c.self.invariant.world
      (subst (λ world. IsSome (index_of c.args.index world.indices)) (sym c.self.view_is) c.requires.there)
      c.write.ensures.written c.write.ensures.ok c.write.ensures.err;
  object_names = c.self.invariant.object_names;
  index_names =
      names_after_write c.args.index c.args.offset c.args.bytes.now c.write.result c.self.inside.index_names c.self.inside.indices c.write.new.self
      c.self.invariant.index_names c.write.ensures.written c.write.ensures.err;
}

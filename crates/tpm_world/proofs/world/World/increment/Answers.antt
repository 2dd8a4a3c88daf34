use Rattle.std.proofs.Common.{◌≡◌, Some, sym, subst}
use Rattle.std.specs.Prelude.{IfErr, IsSome}
use Rattle.tpm_nv.specs.Indices.{counter_rule, index_of, rule_of}
use Rattle.tpm_world.specs.WorldView.{state_of}
use Rattle.tpm_world.proofs.NamesKept.{names_after_increment}
use Rattle.tpm_world.proofs.WorldLemmas.{world_incremented}
use Rattle.tpm_world.proofs.world.World.increment.Goals as goal

pub invariant_of-self : goal.invariant_of-self
invariant_of-self c = record {
  world =
      world_incremented (state_of c.self.inside) c.args.index c.increment.result c.increment.new.self c.self.invariant.world
      (subst (λ world. IsSome (index_of c.args.index world.indices)) (sym c.self.view_is) c.requires.there)
      c.increment.ensures.incremented c.increment.ensures.ok c.increment.ensures.err;
  object_names = c.self.invariant.object_names;
  index_names =
      names_after_increment c.args.index c.increment.result c.self.inside.index_names c.self.inside.indices c.increment.new.self
      c.self.invariant.index_names c.increment.ensures.incremented c.increment.ensures.err;
}

pub returns-clause-refused : goal.returns-clause-refused
returns-clause-refused c =
    subst (λ world. IfErr c.increment.result (λ rc. rule_of (counter_rule world.indices) c.args.index world.indices ≡ Some rc.code))
    c.self.view_is c.increment.ensures.refused

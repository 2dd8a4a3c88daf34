use Rattle.std.proofs.Common.{◌≡◌, All, drop}
use Rattle.tpol_name.specs.Setups.{IsSetup}
use Rattle.tpol_store.specs.Stores.{IsReadable, policies_of, stored}
use Rattle.tpol_prepare.specs.Entities.{IsReadyEntity, entities_from, erased_compiled}
use Rattle.tpol_prepare.proofs.entities.compile_entities.Given as goal

-- the entities so far, with those to come, are all of them
abbrev pub invariant-loop-policy : goal.invariant-loop-policy
invariant-loop-policy l = record {
  answer : entities_from (policies_of l.store) (erased_compiled l.compiled) (drop l.policy-index l.policies)
      ≡ entities_from (policies_of l.store) (erased_compiled l.initial.compiled) l.policies;
  setup : IsSetup l.initial.compiled.setup → IsSetup l.compiled.setup;
  ready : All IsReadable (stored l.store) → All IsReadyEntity l.compiled.entities;
}

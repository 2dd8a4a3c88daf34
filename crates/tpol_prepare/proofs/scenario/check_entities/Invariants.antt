use Rattle.std.proofs.Common.{◌≡◌, ◌<◌, ℕ, drop, get_or, map}
use Rattle.tpol_prepare.specs.declared.entities.CompiledEntity.{CompiledEntity}
use Rattle.tpol_prepare.specs.Entities.{erased_entity}
use Rattle.tpol_prepare.specs.Scenario.{IsWalkable, entity_document}
use Rattle.tpol_steps.specs.Limits.{limits_step}
use Rattle.tpol_prepare.proofs.scenario.check_entities.Given as goal
use Rattle.tpol_tree.specs.ClosedErased.{erased_document}

-- the entities to come decide, and the policies of those so far can be walked
abbrev pub invariant-loop-entity : goal.invariant-loop-entity
invariant-loop-entity l = record {
  answer : limits_step (map erased_document l.approvals) (map entity_document (map erased_entity (drop l.entity-index l.entities)))
      ≡ limits_step (map erased_document l.approvals) (map entity_document (map erased_entity l.entities));
  within : (k : ℕ) (d : CompiledEntity) → k < l.entity-index → IsWalkable l.approvals (get_or l.entities k d).document.closed;
}

use Rattle.std.proofs.Common.{◌≡◌, drop, map}
use Rattle.tpol_store.specs.Stores.{policies_of}
use Rattle.tpol_prepare.specs.References.{entity_reference, references_step}
use Rattle.tpol_prepare.proofs.references.check_entities.Given as goal

-- the entities to come decide
abbrev pub invariant-loop-policy : goal.invariant-loop-policy
invariant-loop-policy l =
    references_step (policies_of l.store) (map entity_reference (drop l.policy-index l.policies))
    ≡ references_step (policies_of l.store) (map entity_reference l.policies)

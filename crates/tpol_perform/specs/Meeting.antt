-- Facts that meet the policy of what they opened.
use Rattle.std.specs.Prelude.{◌≡◌, List, IfSome}
use Rattle.tpm_engine.specs.declared.opened.Opened.{Opened}
use Rattle.tpol_digest.specs.Digest.{digest_of_moves, policy_digest}
use Rattle.tpol_digest.specs.Sound.{IsSound}
use Rattle.tpol_tree.specs.Facts.{moves_of as moves_of_facts}
use Rattle.tpol_prepare.specs.declared.entities.CompiledEntity.{CompiledEntity}
use Rattle.tpol_prepare.specs.Scenario.{policy_of_entity}

-- facts that a policy session opened an entity with: each meets the digest before it, and they give the digest of
-- the entity's policy, where the scene names that
pub record MeetsPolicy (entities : List CompiledEntity) (opened : Opened) : Type 0 where
  pub sound : IsSound (moves_of_facts opened.facts)
  pub digest : IfSome (policy_of_entity entities opened.entity) (λ policy. digest_of_moves (moves_of_facts opened.facts) ≡ policy_digest policy)

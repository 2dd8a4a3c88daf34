-- Facts that opened an entity meet its policy.
use Rattle.std.proofs.Common.{◌≡◌, ◌∙◌, arith, ap, subst, sym, refl, ℕ, Bool, true, false, nat_eq, if◌then◌else◌, List, [], length, Option, Some, None, IfSome}
use Rattle.std.specs.Option.{option_map}
use Rattle.tpm_engine.specs.declared.opened.Opened.{Opened}
use Rattle.tpm_nv.specs.Indices.{index_of}
use Rattle.tpm_rules.specs.Entity.{Entity, Hierarchy, Index, Object, Pcr, auth_policy_of}
use Rattle.tpm_world.specs.Entities.{entity_at, entity_of_kind, hierarchy_at}
use Rattle.tpm_world.specs.Objects.{object_of}
use Rattle.tpm_world.specs.World.{world_of}
use Rattle.tpol_base.specs.declared.digest.Digest32.{Digest32}
use Rattle.tpol_base.specs.declared.handle.HandleKind.{HandleKind}
use Rattle.tpol_base.specs.declared.handle.HandleKind.TheVariants as kinds
use Rattle.tpol_base.specs.Handle.{kind_of_handle, rh_endorsement, rh_lockout, rh_owner}
use Rattle.tpol_base.proofs.Digests.{same_digest}
use Rattle.tpol_digest.specs.Digest.{digest_of_moves, policy_digest}
use Rattle.tpol_digest.specs.Sound.{IsSound}
use Rattle.tpol_tree.specs.Facts.{moves_of as moves_of_facts}
use Rattle.tpol_name.specs.declared.entries.IndexEntry.{IndexEntry}
use Rattle.tpol_name.specs.declared.entries.ObjectEntry.{ObjectEntry}
use Rattle.tpol_name.specs.declared.setup.Setup.{Setup}
use Rattle.tpol_prepare.specs.declared.entities.CompiledEntity.{CompiledEntity}
use Rattle.tpol_perform.specs.Meeting.{MeetsPolicy}
use Rattle.tpol_prepare.specs.Scenario.{HasPolicyAt, HavePolicies, policy_of_entity}
use Rattle.tpol_tree.specs.declared.closed.Closed.{Closed}

at_index : (found : Option IndexEntry) (bytes digest : List ℕ) → IfSome found (λ i. i.public.auth_policy ≡ digest) → option_map auth_policy_of (option_map Index found) ≡ Some bytes → bytes ≡ digest
at_index None bytes digest h e = absurd cc
at_index (Some i) bytes digest h e = cc

at_object : (found : Option ObjectEntry) (bytes digest : List ℕ) → IfSome found (λ o. o.public.auth_policy ≡ digest) → option_map auth_policy_of (option_map Object found) ≡ Some bytes → bytes ≡ digest
at_object None bytes digest h e = absurd cc
at_object (Some o) bytes digest h e = cc

-- a hierarchy and a PCR have no authPolicy, and a digest is not empty
at_none : (found : Option Entity) (digest : Digest32) (bytes : List ℕ) → ((entity : Entity) → found ≡ Some entity → auth_policy_of entity ≡ []) → option_map auth_policy_of found ≡ Some digest.bytes → digest.bytes ≡ bytes
at_none None digest bytes none e = absurd cc
at_none (Some entity) digest bytes none e =
    let empty : digest.bytes ≡ [] = sym (same_value _ _ e) ∙ none entity refl in
    absurd (omega (arith, ap length empty, digest.whole))
  where
    same_value : (a b : List ℕ) → Some a ≡ Some b → a ≡ b
    same_value a b h = cc

no_policy : (one two three : Bool) (handle : ℕ) (owner endorsement lockout : List ℕ) (entity : Entity)
    → (if one then Some (Hierarchy handle owner) else (if two then Some (Hierarchy handle endorsement) else (if three then Some (Hierarchy handle lockout) else None))) ≡ Some entity → auth_policy_of entity ≡ []
no_policy true two three handle owner endorsement lockout entity e = let same : Hierarchy handle owner ≡ entity = cc in subst (λ x. auth_policy_of x ≡ []) same refl
no_policy false true three handle owner endorsement lockout entity e = let same : Hierarchy handle endorsement ≡ entity = cc in subst (λ x. auth_policy_of x ≡ []) same refl
no_policy false false true handle owner endorsement lockout entity e = let same : Hierarchy handle lockout ≡ entity = cc in subst (λ x. auth_policy_of x ≡ []) same refl
no_policy false false false handle owner endorsement lockout entity e = absurd cc

of_kind : (setup : Setup) (handle : ℕ) (kind : Option HandleKind) (found digest : Digest32) → HasPolicyAt setup handle digest
    → option_map auth_policy_of (entity_of_kind (world_of setup) handle kind) ≡ Some found.bytes → found.bytes ≡ digest.bytes
of_kind setup handle None found digest h e = absurd cc
of_kind setup handle (Some kinds.Pcr) found digest h e = at_none (Some Pcr) found digest.bytes (λ entity same. let is : Pcr ≡ entity = cc in subst (λ x. auth_policy_of x ≡ []) is refl) e
of_kind setup handle (Some kinds.Index) found digest h e = at_index (index_of handle setup.indices) found.bytes digest.bytes h.1 e
of_kind setup handle (Some kinds.Object) found digest h e = at_object (object_of handle setup.objects) found.bytes digest.bytes h.0 e
of_kind setup handle (Some kinds.Permanent) found digest h e =
    at_none (hierarchy_at (world_of setup) handle) found digest.bytes (no_policy (nat_eq handle rh_owner) (nat_eq handle rh_endorsement) (nat_eq handle rh_lockout) handle setup.owner setup.endorsement setup.lockout) e
of_kind setup handle (Some kinds.PolicySession) found digest h e = absurd cc

met : (setup : Setup) (handle : ℕ) (found : Digest32) (policy : Option Closed) → IfSome policy (λ c. HasPolicyAt setup handle (policy_digest c))
    → option_map auth_policy_of (entity_at (world_of setup) handle) ≡ Some found.bytes → IfSome policy (λ c. found ≡ policy_digest c)
met setup handle found None h e = tt
met setup handle found (Some c) h e = same_digest found (policy_digest c) (of_kind setup handle (kind_of_handle handle) found (policy_digest c) h e)

pub opened_meets : (setup : Setup) (entities : List CompiledEntity) (opened : Opened) → HavePolicies setup entities → IsSound (moves_of_facts opened.facts)
    → option_map auth_policy_of (entity_at (world_of setup) opened.entity) ≡ Some (digest_of_moves (moves_of_facts opened.facts)).bytes → MeetsPolicy entities opened
opened_meets setup entities opened has sound e = record {
  sound = sound;
  digest = met setup opened.entity (digest_of_moves (moves_of_facts opened.facts)) (policy_of_entity entities opened.entity) (has opened.entity) e;
}

-- the same of what a command opened, if anything
pub any_opened_meets : (setup : Setup) (entities : List CompiledEntity) (opened : Option Opened) → HavePolicies setup entities → IfSome opened (λ o. IsSound (moves_of_facts o.facts))
    → IfSome opened (λ o. option_map auth_policy_of (entity_at (world_of setup) o.entity) ≡ Some (digest_of_moves (moves_of_facts o.facts)).bytes) → IfSome opened (MeetsPolicy entities)
any_opened_meets setup entities None has sound e = tt
any_opened_meets setup entities (Some opened) has sound e = opened_meets setup entities opened has sound e

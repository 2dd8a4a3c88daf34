-- An entity that is compiled, whichever memory its policy lies in.
use Rattle.std.proofs.Common.{◌≡◌, List, [], ◌∷◌, ◌++◌, refl}
use Rattle.std.proofs.lemmas.List.{map-append}
use Rattle.std.specs.Prelude.{ℕ}
use Rattle.tpol_base.specs.declared.digest.Digest32.{Digest32}
use Rattle.tpol_digest.specs.Digest.{policy_digest}
use Rattle.tpol_name.specs.declared.setup.Setup.{Setup}
use Rattle.tpol_entities.specs.declared.entities.EntityPolicy.{EntityPolicy}
use Rattle.tpol_prepare.specs.declared.entities.CompiledEntity.{CompiledEntity}
use Rattle.tpol_prepare.specs.declared.entities.CompiledSetup.{CompiledSetup}
use Rattle.tpol_prepare.specs.Entities.{compiled_entity, erased_compiled, erased_entity, setup_with_policy, with_entity}
use Rattle.tpol_steps.proofs.FilledErased.{policy_digest_erased}
use Rattle.tpol_tree.specs.ClosedErased.{erased}
use Rattle.tpol_tree.specs.declared.closed.Closed.{Closed}

pub entity_added : (compiled : CompiledSetup) (policy : EntityPolicy) (closed : Closed) (digest : Digest32) (setup : Setup) (name : List ℕ) (entities : List CompiledEntity) → digest ≡ policy_digest closed → setup ≡ setup_with_policy policy.handle digest compiled.setup → name ≡ policy.name → entities ≡ compiled.entities ++ (record { handle = policy.handle; document = record { name = name; closed = closed } }) ∷ [] → erased_compiled (record { setup = setup; entities = entities }) ≡ with_entity (erased_compiled compiled) policy (erased closed)
entity_added compiled policy closed digest setup name entities is_digest gives is_name adds =
    rw (gives, is_digest, adds, is_name, map-append erased_entity compiled.entities (compiled_entity policy closed ∷ []), policy_digest_erased closed) refl

-- Entities whose authorization policy is named: the policy is filled with the entities before it, and its digest
-- is the entity's authPolicy.
use Rattle.std.specs.Prelude.{ℕ, ◌==◌, List, [], ◌∷◌, ◌++◌, map, take, Some, Ok, if◌then◌else◌}
use Rattle.tpol_base.specs.declared.digest.Digest32.{Digest32}
use Rattle.tpol_digest.specs.Digest.{policy_digest}
use Rattle.tpol_name.specs.declared.entries.IndexEntry.{IndexEntry}
use Rattle.tpol_name.specs.declared.entries.ObjectEntry.{ObjectEntry}
use Rattle.tpol_name.specs.declared.setup.Setup.{Setup}
use Rattle.tpol_name.specs.declared.sight.Sight.{Sight}
use Rattle.tpol_name.specs.Setups.{first_sight}
use Rattle.tpol_entities.specs.declared.entities.EntityPolicy.{EntityPolicy}
use Rattle.tpol_store.specs.Stores.{NamedPolicy}
use Rattle.tpol_prepare.specs.declared.entities.CompiledEntity.{CompiledEntity}
use Rattle.tpol_prepare.specs.declared.entities.CompiledSetup.{CompiledSetup}
use Rattle.tpol_prepare.specs.References.{policy_at}
use Rattle.tpol_steps.specs.Filled.{IsReadyDocument, erased_filled, filled_step}
use Rattle.tpol_steps.specs.Steps.{Step, ◌>>=◌}
use Rattle.tpol_tree.specs.declared.closed.Closed.{Closed}

-- ---- what stands before an entity

-- the setup with these entities alone
abbrev pub before_entity : EntityPolicy → Setup → Setup
before_entity policy setup = record setup {
  objects = take policy.objects_before setup.objects;
  indices = take policy.indices_before setup.indices;
}

-- what they show
abbrev pub sight_before : EntityPolicy → Setup → Sight
sight_before policy setup = first_sight (before_entity policy setup)

-- ---- the entity of a handle, with a digest as its authPolicy

abbrev pub object_with_policy : ℕ → Digest32 → ObjectEntry → ObjectEntry
object_with_policy handle digest object =
    if object.handle == handle then record object { public = record object.public { auth_policy = digest.bytes } } else object

abbrev pub index_with_policy : ℕ → Digest32 → IndexEntry → IndexEntry
index_with_policy handle digest index =
    if index.public.index == handle then record index { public = record index.public { auth_policy = digest.bytes } } else index

abbrev pub setup_with_policy : ℕ → Digest32 → Setup → Setup
setup_with_policy handle digest setup = record setup {
  objects = map (object_with_policy handle digest) setup.objects;
  indices = map (index_with_policy handle digest) setup.indices;
}

-- ---- entity after entity

-- the entity's policy, filled
unfoldable pub entity_step : List NamedPolicy → Setup → EntityPolicy → Step Closed
entity_step store setup policy =
    policy_at store policy.name policy.place >>= λ written.
    filled_step (Some policy.name) written (Some (sight_before policy setup))

abbrev pub compiled_entity : EntityPolicy → Closed → CompiledEntity
compiled_entity policy closed = record { handle = policy.handle; document = record { name = policy.name; closed = closed } }

-- before any entity, and with one more
abbrev pub no_entity : Setup → CompiledSetup
no_entity setup = record { setup = setup; entities = [] }

abbrev pub with_entity : CompiledSetup → EntityPolicy → Closed → CompiledSetup
with_entity compiled policy closed = record {
  setup = setup_with_policy policy.handle (policy_digest closed) compiled.setup;
  entities = compiled.entities ++ compiled_entity policy closed ∷ [];
}

-- the entity is compiled
unfoldable pub compiled_step : List NamedPolicy → CompiledSetup → EntityPolicy → Step CompiledSetup
compiled_step store compiled policy =
    entity_step store compiled.setup policy >>= λ closed. Ok (with_entity compiled policy closed)

-- the setup with the authPolicies of all these entities, and their policies, behind those before
unfoldable pub entities_from : List NamedPolicy → CompiledSetup → List EntityPolicy → Step CompiledSetup
entities_from store compiled [] = Ok compiled
entities_from store compiled (policy ∷ rest) =
    compiled_step store compiled policy >>= λ after. entities_from store after rest

-- ---- whichever memory the policies lie in

abbrev pub erased_entity : CompiledEntity → CompiledEntity
erased_entity entity = record entity { document = erased_filled entity.document }

abbrev pub erased_compiled : CompiledSetup → CompiledSetup
erased_compiled compiled = record compiled { entities = map erased_entity compiled.entities }

-- ---- policies that a run can go through

abbrev pub IsReadyEntity : CompiledEntity → Type 0
IsReadyEntity entity = IsReadyDocument entity.document

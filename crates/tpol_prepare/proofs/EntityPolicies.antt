-- The entities whose policies a scene names have the digests of these as their authPolicies.
use Rattle.std.proofs.lemmas.Bool.Decides.{nat_tests}
use Rattle.std.proofs.Common.{◌≡◌, ◌∙◌, arith, ap, refl, subst, sym, ℕ, Bool, true, false, nat_eq, if◌then◌else◌, List, [], ◌∷◌, ◌++◌, map, find, reverse, Option, Some, None, Ok, IfSome}
use Rattle.std.proofs.lemmas.List.{reverse-append}
use Rattle.std.specs.Option.{option_map}
use Rattle.tpm_nv.specs.Indices.{index_of}
use Rattle.tpm_world.specs.Objects.{object_of}
use Rattle.tpol_base.specs.declared.digest.Digest32.{Digest32}
use Rattle.tpol_digest.specs.Digest.{policy_digest}
use Rattle.tpol_name.specs.declared.entries.IndexEntry.{IndexEntry}
use Rattle.tpol_name.specs.declared.entries.ObjectEntry.{ObjectEntry}
use Rattle.tpol_name.specs.declared.setup.Setup.{Setup}
use Rattle.tpol_entities.specs.declared.entities.EntityPolicy.{EntityPolicy}
use Rattle.tpol_scene.specs.declared.scene.Scene.{Scene}
use Rattle.tpol_store.specs.Stores.{NamedPolicy}
use Rattle.tpol_prepare.specs.declared.entities.CompiledEntity.{CompiledEntity}
use Rattle.tpol_prepare.specs.declared.prepared.PreparedScene.{PreparedScene}
use Rattle.tpol_prepare.specs.Entities.{compiled_entity, erased_entity, index_with_policy, object_with_policy, setup_with_policy}
use Rattle.tpol_prepare.specs.Prepared.{prepared_step}
use Rattle.tpol_prepare.specs.Scenario.{HasPolicyAt, HavePolicies, is_entity, policy_of_entity}
use Rattle.tpol_steps.proofs.FilledErased.{policy_digest_erased}
use Rattle.tpol_prepare.proofs.EntitiesErased.{reversed_erased}
use Rattle.tpol_prepare.proofs.EntitiesKept.{prepared_keeps}
use Rattle.tpol_tree.specs.ClosedErased.{erased}
use Rattle.tpol_tree.specs.declared.closed.Closed.{Closed}

flip : (a b : ℕ) (t : Bool) → nat_eq a b ≡ t → nat_eq b a ≡ t
flip a b true e = grind (arith, nat_tests)
flip a b false e = grind (arith, nat_tests)

equal : (a b : ℕ) → nat_eq a b ≡ true → a ≡ b
equal a b e = grind (arith, nat_tests)

module _ (handle : ℕ) (digest : Digest32) where
  abbrev object_changed : ObjectEntry → ObjectEntry
  object_changed object = record object { public = record object.public { auth_policy = digest.bytes } }

  abbrev index_changed : IndexEntry → IndexEntry
  index_changed index = record index { public = record index.public { auth_policy = digest.bytes } }

  abbrev ObjectHas : ObjectEntry → Type 0
  ObjectHas object = object.public.auth_policy ≡ digest.bytes

  abbrev IndexHas : IndexEntry → Type 0
  IndexHas index = index.public.auth_policy ≡ digest.bytes

  -- ---- the entity of the handle

  object_set : (objects : List ObjectEntry) → IfSome (object_of handle (map (object_with_policy handle digest) objects)) ObjectHas
  object_set [] = tt
  object_set (object ∷ rest) =
      elim (nat_eq object.handle handle) as (λ b. nat_eq object.handle handle ≡ b
      → IfSome (if nat_eq handle (if b then object_changed object else object).handle then Some (if b then object_changed object else object) else object_of handle (map (object_with_policy handle digest) rest)) ObjectHas) [
        | true ↦ λ e. rw (flip object.handle handle true e) refl
        | false ↦ λ e. rw (flip object.handle handle false e) (object_set rest)
      ] refl

  index_set : (indices : List IndexEntry) → IfSome (index_of handle (map (index_with_policy handle digest) indices)) IndexHas
  index_set [] = tt
  index_set (index ∷ rest) =
      elim (nat_eq index.public.index handle) as (λ b. nat_eq index.public.index handle ≡ b
      → IfSome (if nat_eq handle (if b then index_changed index else index).public.index then Some (if b then index_changed index else index) else index_of handle (map (index_with_policy handle digest) rest)) IndexHas) [
        | true ↦ λ e. rw (flip index.public.index handle true e) refl
        | false ↦ λ e. rw (flip index.public.index handle false e) (index_set rest)
      ] refl

  pub set_here : (setup : Setup) → HasPolicyAt (setup_with_policy handle digest setup) handle digest
  set_here setup = (object_set setup.objects, index_set setup.indices)

  -- ---- that of another handle

  module _ (other : ℕ) (apart : nat_eq handle other ≡ false) where
    object_kept : (objects : List ObjectEntry) → object_of other (map (object_with_policy handle digest) objects) ≡ object_of other objects
    object_kept [] = refl
    object_kept (object ∷ rest) =
        elim (nat_eq object.handle handle) as (λ b. nat_eq object.handle handle ≡ b
        → (if nat_eq other (if b then object_changed object else object).handle then Some (if b then object_changed object else object) else object_of other (map (object_with_policy handle digest) rest))
        ≡ (if nat_eq other object.handle then Some object else object_of other rest)) [
          | true ↦ λ e. let away : nat_eq other object.handle ≡ false = grind (arith, nat_tests) in rw away (object_kept rest)
          | false ↦ λ e. ap (λ (found : Option ObjectEntry). if nat_eq other object.handle then Some object else found) (object_kept rest)
        ] refl

    index_kept : (indices : List IndexEntry) → index_of other (map (index_with_policy handle digest) indices) ≡ index_of other indices
    index_kept [] = refl
    index_kept (index ∷ rest) =
        elim (nat_eq index.public.index handle) as (λ b. nat_eq index.public.index handle ≡ b
        → (if nat_eq other (if b then index_changed index else index).public.index then Some (if b then index_changed index else index) else index_of other (map (index_with_policy handle digest) rest))
        ≡ (if nat_eq other index.public.index then Some index else index_of other rest)) [
          | true ↦ λ e. let away : nat_eq other index.public.index ≡ false = grind (arith, nat_tests) in rw away (index_kept rest)
          | false ↦ λ e. ap (λ (found : Option IndexEntry). if nat_eq other index.public.index then Some index else found) (index_kept rest)
        ] refl

    pub kept_there : (setup : Setup) (found : Digest32) → HasPolicyAt setup other found → HasPolicyAt (setup_with_policy handle digest setup) other found
    kept_there setup found h = (
      subst (λ (o : Option ObjectEntry). IfSome o (λ object. object.public.auth_policy ≡ found.bytes)) (sym (object_kept setup.objects)) h.0,
      subst (λ (i : Option IndexEntry). IfSome i (λ index. index.public.auth_policy ≡ found.bytes)) (sym (index_kept setup.indices)) h.1,
    )

-- ---- entity after entity

added : (setup : Setup) (entities : List CompiledEntity) (policy : EntityPolicy) (closed : Closed) → HavePolicies setup entities
    → HavePolicies (setup_with_policy policy.handle (policy_digest closed) setup) (entities ++ compiled_entity policy closed ∷ [])
added setup entities policy closed h handle =
    rw (reverse-append entities (compiled_entity policy closed ∷ []))
    (elim (nat_eq policy.handle handle) as (λ b. nat_eq policy.handle handle ≡ b
    → IfSome (option_map (λ (e : CompiledEntity). e.document.closed) (if b then Some (compiled_entity policy closed) else find (is_entity handle) (reverse entities)))
    (λ found. HasPolicyAt (setup_with_policy policy.handle (policy_digest closed) setup) handle (policy_digest found))) [
      | true ↦ λ e. subst (λ (k : ℕ). HasPolicyAt (setup_with_policy policy.handle (policy_digest closed) setup) k (policy_digest closed)) (equal policy.handle handle e) (set_here policy.handle (policy_digest closed) setup)
      | false ↦ λ e. through (option_map (λ (e : CompiledEntity). e.document.closed) (find (is_entity handle) (reverse entities))) e (h handle)
    ] refl)
  where
    through : (found : Option Closed) → nat_eq policy.handle handle ≡ false → IfSome found (λ c. HasPolicyAt setup handle (policy_digest c))
        → IfSome found (λ c. HasPolicyAt (setup_with_policy policy.handle (policy_digest closed) setup) handle (policy_digest c))
    through None e there = tt
    through (Some c) e there = kept_there policy.handle (policy_digest closed) handle e setup (policy_digest c) there

-- ---- a scene whose policies are filled

pub prepared_have : (store : List NamedPolicy) (scene : Scene) (result : PreparedScene) → prepared_step store scene ≡ Ok result → HavePolicies result.setup result.entities
prepared_have store scene result e = prepared_keeps HavePolicies added store scene result (λ handle. tt) e

-- ---- whichever memory the policies lie in

pub found_erased : (handle : ℕ) (entities : List CompiledEntity)
    → option_map (λ (e : CompiledEntity). e.document.closed) (find (is_entity handle) (map erased_entity entities))
    ≡ option_map erased (option_map (λ (e : CompiledEntity). e.document.closed) (find (is_entity handle) entities))
found_erased handle [] = refl
found_erased handle (entity ∷ rest) =
    elim (nat_eq entity.handle handle) as (λ b. option_map (λ (e : CompiledEntity). e.document.closed) (if b then Some (erased_entity entity) else find (is_entity handle) (map erased_entity rest))
    ≡ option_map erased (option_map (λ (e : CompiledEntity). e.document.closed) (if b then Some entity else find (is_entity handle) rest))) [
      | true ↦ refl
      | false ↦ found_erased handle rest
    ]

unerased : (setup : Setup) (handle : ℕ) (found : Option Closed) → IfSome (option_map erased found) (λ c. HasPolicyAt setup handle (policy_digest c)) → IfSome found (λ c. HasPolicyAt setup handle (policy_digest c))
unerased setup handle None h = tt
unerased setup handle (Some c) h = subst (HasPolicyAt setup handle) (policy_digest_erased c) h

pub have_unerased : (setup : Setup) (entities : List CompiledEntity) → HavePolicies setup (map erased_entity entities) → HavePolicies setup entities
have_unerased setup entities h handle =
    unerased setup handle (policy_of_entity entities handle)
    (subst (λ (found : Option Closed). IfSome found (λ c. HasPolicyAt setup handle (policy_digest c)))
    (ap (λ (l : List CompiledEntity). option_map (λ (e : CompiledEntity). e.document.closed) (find (is_entity handle) l)) (reversed_erased entities) ∙ found_erased handle (reverse entities)) (h handle))

-- Where the entities stand whose policy is named, and how many entities there are.
use Rattle.std.proofs.Common.{◌≡◌, ℕ, zero, suc, ◌+◌, ◌≤◌, ◌<◌, List, [], ◌∷◌, ◌++◌, length, map, refl, sym, ap, ◌∙◌, arith, inl, inr, length-append}
use Rattle.std.specs.Prelude.{Option, Some, None, ⊤, All, nat_lt, slice_get, codes}
use Rattle.std.proofs.lemmas.Bool.{ltb-true}
use Rattle.std.proofs.lemmas.List.{length-map, map_push}
use Rattle.std.proofs.lemmas.List.Elements.{All-nil, All-push, All-weaker}
use Rattle.serde_json.specs.Data.{Data}
use Rattle.tpol_base.specs.Attributes.{object_sign, object_user_with_auth}
use Rattle.tpol_json.proofs.AllFound.{AllFound, all_read, all_then}
use Rattle.tpol_json.specs.Values.{is_within_limit}
use Rattle.tpol_json.specs.declared.fault.MemberKind.TheVariants.{TooMany}
use Rattle.tpol_json.specs.declared.place.Place.{Place}
use Rattle.tpol_name.specs.declared.areas.Scheme.{Scheme}
use Rattle.tpol_name.specs.declared.areas.Scheme.TheVariants.{Sealed, HmacKey}
use Rattle.tpol_name.specs.declared.entries.IndexEntry.{IndexEntry}
use Rattle.tpol_name.specs.declared.entries.ObjectEntry.{ObjectEntry}
use Rattle.tpol_entities.specs.Entities.{entities_in, entity_by, entity_in, heading_in, index_behind, index_entry_in, no_entities, object_behind, object_entry_in, policies_with}
use Rattle.tpol_entities.specs.Faults.{kind_of, read_as}
use Rattle.tpol_json.specs.Members.{optional}
use Rattle.tpol_entities.specs.Places.{StandsBehind}
use Rattle.tpol_entities.specs.declared.entities.Entities.{Entities}
use Rattle.tpol_entities.specs.declared.entities.EntityPolicy.{EntityPolicy}
use Rattle.tpol_entities.specs.declared.heading.Heading.{Heading}
use Rattle.tpol_entities.specs.declared.heading.NamedPolicy.{NamedPolicy}
use Rattle.tpol_entities.specs.declared.kinds.EntityKind.{EntityKind}
use Rattle.tpol_entities.specs.declared.kinds.EntityKind.TheVariants.{Seal, Key, Nv}
use Rattle.tpol_entities.proofs.ValueLemmas.{any_ok, list_counted, optional_ok, tested}

-- ---- items of a list with one more at its end

get-before : {A : Type 0} (xs ys : List A) (n : ℕ) (x : A) → slice_get xs n ≡ Some x → slice_get (xs ++ ys) n ≡ Some x
get-before [] ys zero x e = absurd cc
get-before [] ys (suc n) x e = absurd cc
get-before (y ∷ xs) ys zero x e = e
get-before (y ∷ xs) ys (suc n) x e = get-before xs ys n x e

get-last : {A : Type 0} (xs : List A) (x : A) → slice_get (xs ++ x ∷ []) (length xs) ≡ Some x
get-last [] x = refl
get-last (y ∷ xs) x = get-last xs x

-- ---- places

abbrev Placed : List ObjectEntry → List IndexEntry → List EntityPolicy → Type 0
Placed objects indices policies = All (StandsBehind objects indices) policies

abbrev object_handles : List ObjectEntry → List ℕ
object_handles objects = map (λ (o : ObjectEntry). o.handle) objects

abbrev index_handles : List IndexEntry → List ℕ
index_handles indices = map (λ (i : IndexEntry). i.public.index) indices

-- with one more object, or one more index
behind-object : (objects : List ObjectEntry) (indices : List IndexEntry) (object : ObjectEntry) (policy : EntityPolicy)
    → StandsBehind objects indices policy → StandsBehind (objects ++ object ∷ []) indices policy
behind-object objects indices object policy h = record {
  objects_before = omega (arith, h.objects_before, length-append objects (object ∷ []));
  indices_before = h.indices_before;
  is_next = elim h.is_next [
    | inl e ↦ inl (ap (λ (handles : List ℕ). slice_get handles policy.objects_before) (map_push (λ (o : ObjectEntry). o.handle) objects object) ∙ get-before (object_handles objects) (object.handle ∷ []) policy.objects_before policy.handle e)
    | inr e ↦ inr e
  ];
}

behind-index : (objects : List ObjectEntry) (indices : List IndexEntry) (index : IndexEntry) (policy : EntityPolicy)
    → StandsBehind objects indices policy → StandsBehind objects (indices ++ index ∷ []) policy
behind-index objects indices index policy h = record {
  objects_before = h.objects_before;
  indices_before = omega (arith, h.indices_before, length-append indices (index ∷ []));
  is_next = elim h.is_next [
    | inl e ↦ inl e
    | inr e ↦ inr (ap (λ (handles : List ℕ). slice_get handles policy.indices_before) (map_push (λ (i : IndexEntry). i.public.index) indices index) ∙ get-before (index_handles indices) (index.public.index ∷ []) policy.indices_before policy.handle e)
  ];
}

-- the entity that comes next
next-object : (entities : Entities) (object : ObjectEntry) (named : NamedPolicy)
    → StandsBehind (entities.objects ++ object ∷ []) entities.indices
    (record { handle = object.handle; objects_before = length entities.objects; indices_before = length entities.indices; name = named.name; place = named.place })
next-object entities object named = record {
  objects_before = omega (arith, length-append entities.objects (object ∷ []));
  indices_before = omega arith;
  is_next = inl (
      ap (λ (handles : List ℕ). slice_get handles (length entities.objects)) (map_push (λ (o : ObjectEntry). o.handle) entities.objects object)
      ∙ ap (λ n. slice_get (object_handles entities.objects ++ object.handle ∷ []) n) (sym (length-map entities.objects (λ (o : ObjectEntry). o.handle)))
      ∙ get-last (object_handles entities.objects) object.handle
      );
}

next-index : (entities : Entities) (index : IndexEntry) (named : NamedPolicy)
    → StandsBehind entities.objects (entities.indices ++ index ∷ [])
    (record { handle = index.public.index; objects_before = length entities.objects; indices_before = length entities.indices; name = named.name; place = named.place })
next-index entities index named = record {
  objects_before = omega arith;
  indices_before = omega (arith, length-append entities.indices (index ∷ []));
  is_next = inr (
      ap (λ (handles : List ℕ). slice_get handles (length entities.indices)) (map_push (λ (i : IndexEntry). i.public.index) entities.indices index)
      ∙ ap (λ n. slice_get (index_handles entities.indices ++ index.public.index ∷ []) n) (sym (length-map entities.indices (λ (i : IndexEntry). i.public.index)))
      ∙ get-last (index_handles entities.indices) index.public.index
      );
}

abbrev ArePlaced : Entities → Type 0
ArePlaced entities = Placed entities.objects entities.indices entities.policies

placed-object : (entities : Entities) (object : ObjectEntry) (named : Option NamedPolicy) → ArePlaced entities
    → Placed (entities.objects ++ object ∷ []) entities.indices (policies_with entities object.handle named)
placed-object entities object None h = All-weaker (StandsBehind entities.objects entities.indices) (StandsBehind (entities.objects ++ object ∷ []) entities.indices) (behind-object entities.objects entities.indices object) entities.policies h
placed-object entities object (Some named) h =
    All-push (StandsBehind (entities.objects ++ object ∷ []) entities.indices) entities.policies _
    (All-weaker (StandsBehind entities.objects entities.indices) (StandsBehind (entities.objects ++ object ∷ []) entities.indices) (behind-object entities.objects entities.indices object) entities.policies h) (next-object entities object named)

placed-index : (entities : Entities) (index : IndexEntry) (named : Option NamedPolicy) → ArePlaced entities
    → Placed entities.objects (entities.indices ++ index ∷ []) (policies_with entities index.public.index named)
placed-index entities index None h = All-weaker (StandsBehind entities.objects entities.indices) (StandsBehind entities.objects (entities.indices ++ index ∷ [])) (behind-index entities.objects entities.indices index) entities.policies h
placed-index entities index (Some named) h =
    All-push (StandsBehind entities.objects (entities.indices ++ index ∷ [])) entities.policies _
    (All-weaker (StandsBehind entities.objects entities.indices) (StandsBehind entities.objects (entities.indices ++ index ∷ [])) (behind-index entities.objects entities.indices index) entities.policies h) (next-index entities index named)

-- ---- so many entities were read, and each that names a policy is in its place

pub record Counted (n : ℕ) (entities : Entities) : Type 0 where
  pub placed : All (StandsBehind entities.objects entities.indices) entities.policies
  pub count : length entities.objects + length entities.indices ≡ n
  pub few : n ≤ 256

counted-object : (n : ℕ) (entities : Entities) (scheme : Scheme) (default : ℕ) (heading : Heading) → n < 256 → Counted n entities → (d : Data) (place : Place)
    → AllFound (Counted (suc n)) (object_behind entities scheme default heading d place)
counted-object n entities scheme default heading less h d place =
    all_then (λ _. ⊤) (Counted (suc n)) (object_entry_in scheme default heading d place) _ (any_ok _) (λ object _. record {
      placed = placed-object entities object heading.policy.named h.placed;
      count = omega (arith, h.count, length-append entities.objects (object ∷ []));
      few = omega arith;
    })

counted-index : (n : ℕ) (entities : Entities) (heading : Heading) → n < 256 → Counted n entities → (d : Data) (place : Place)
    → AllFound (Counted (suc n)) (index_behind entities heading d place)
counted-index n entities heading less h d place =
    all_then (λ _. ⊤) (Counted (suc n)) (index_entry_in heading d place) _ (any_ok _) (λ index _. record {
      placed = placed-index entities index heading.policy.named h.placed;
      count = omega (arith, h.count, length-append entities.indices (index ∷ []));
      few = omega arith;
    })

counted-by_kind : (kind : EntityKind) (n : ℕ) (entities : Entities) (heading : Heading) → n < 256 → Counted n entities → (d : Data) (place : Place)
    → AllFound (Counted (suc n)) (entity_by kind entities heading d place)
unfolding entity_by
counted-by_kind Seal n entities heading less h d place = counted-object n entities Sealed object_user_with_auth heading less h d place
counted-by_kind Key n entities heading less h d place = counted-object n entities HmacKey (object_user_with_auth + object_sign) heading less h d place
counted-by_kind Nv n entities heading less h d place = counted-index n entities heading less h d place

within : (index : ℕ) (place : Place) → AllFound (λ _. index < 256) (read_as (is_within_limit 256 index place))
within index place =
    all_read (λ _. index < 256) kind_of (is_within_limit 256 index place) (tested (λ _. index < 256) (nat_lt index 256) tt TooMany place (ltb-true _ _))

counted-entity : (entities : Entities) (index : ℕ) (d : Data) (place : Place) → Counted index entities → AllFound (Counted (suc index)) (entity_in entities index d place)
unfolding entity_in
counted-entity entities index d place h =
    all_then (λ _. index < 256) (Counted (suc index)) (read_as (is_within_limit 256 index place)) _ (within index place) (λ is_within less.
    all_then (λ _. ⊤) (Counted (suc index)) (heading_in entities d place) _ (any_ok _) (λ heading _.
    counted-by_kind heading.kind index entities heading less h d place))

abbrev pub IsCounted : Entities → Type 0
IsCounted entities = (n : ℕ) × Counted n entities

none-counted : Counted 0 no_entities
none-counted = record { placed = All-nil (StandsBehind [] []); count = refl; few = omega arith }

pub entities_counted : (d : Data) (place : Place) → AllFound IsCounted (optional entities_in no_entities (codes "entities") d place)
entities_counted d place =
    optional_ok IsCounted entities_in no_entities (0, none-counted)
    (λ e at. list_counted Counted entity_in counted-entity no_entities none-counted e at) (codes "entities") d place

-- A setup in which an entity was given its authPolicy is a setup again, of the same handles.
use Rattle.std.proofs.Common.{◌≡◌, ◌∙◌, ap, refl, subst, sym, inr, List, [], ◌∷◌, ◌++◌, map, get_or, true, false}
use Rattle.std.proofs.lemmas.List.Elements.{All-map}
use Rattle.std.specs.Prelude.{ℕ, ◌==◌, nat_eq, if◌then◌else◌}
use Rattle.std.specs.List.{IsDistinct}
use Rattle.tpol_base.specs.declared.digest.Digest32.{Digest32}
use Rattle.tpol_name.specs.declared.entries.IndexEntry.{IndexEntry}
use Rattle.tpol_name.specs.declared.entries.ObjectEntry.{ObjectEntry}
use Rattle.tpol_name.specs.declared.setup.Setup.{Setup}
use Rattle.tpol_name.specs.Paths.{is_same_path}
use Rattle.tpol_name.specs.Setups.{AreEntities, IsIndex, IsObject, IsSetup, hierarchy_paths}
use Rattle.tpol_prepare.specs.Entities.{index_with_policy, object_with_policy, setup_with_policy}

-- what a change keeps of each item, the list keeps
kept_by : {A B : Type 0} (change : A → A) (seen : A → B) → ((x : A) → seen (change x) ≡ seen x) → (xs : List A) → map seen (map change xs) ≡ map seen xs
kept_by change seen same [] = refl
kept_by change seen same (x ∷ xs) = ap (λ y. y ∷ map seen (map change xs)) (same x) ∙ ap (λ ys. seen x ∷ ys) (kept_by change seen same xs)

-- the objects and the indices of a setup have the handles of those of another one
pub record HasHandlesOf (before setup : Setup) : Type 0 where
  pub objects : map (λ o. o.handle) setup.objects ≡ map (λ o. o.handle) before.objects
  pub indices : map (λ i. i.public.index) setup.indices ≡ map (λ i. i.public.index) before.indices

module _ (handle : ℕ) (digest : Digest32) where
  abbrev object_changed : ObjectEntry → ObjectEntry
  object_changed object = record object { public = record object.public { auth_policy = digest.bytes } }

  abbrev index_changed : IndexEntry → IndexEntry
  index_changed index = record index { public = record index.public { auth_policy = digest.bytes } }

  object_handle : (object : ObjectEntry) → (object_with_policy handle digest object).handle ≡ object.handle
  object_handle object =
      elim (object.handle == handle) as (λ b. (if b then object_changed object else object).handle ≡ object.handle) [ true ↦ refl | false ↦ refl ]

  object_path : (object : ObjectEntry) → (object_with_policy handle digest object).path ≡ object.path
  object_path object =
      elim (object.handle == handle) as (λ b. (if b then object_changed object else object).path ≡ object.path) [ true ↦ refl | false ↦ refl ]

  index_handle : (index : IndexEntry) → (index_with_policy handle digest index).public.index ≡ index.public.index
  index_handle index =
      elim (index.public.index == handle) as (λ b. (if b then index_changed index else index).public.index ≡ index.public.index) [ true ↦ refl | false ↦ refl ]

  index_path : (index : IndexEntry) → (index_with_policy handle digest index).path ≡ index.path
  index_path index =
      elim (index.public.index == handle) as (λ b. (if b then index_changed index else index).path ≡ index.path) [ true ↦ refl | false ↦ refl ]

  is_object : (object : ObjectEntry) → IsObject object → IsObject (object_with_policy handle digest object)
  is_object object h =
      elim (object.handle == handle) as (λ b. IsObject (if b then object_changed object else object)) [
        | true ↦ record {
          least_handle = h.least_handle;
          greatest_handle = h.greatest_handle;
          auth_policy = inr digest.whole;
          unique = h.unique;
          auth = h.auth;
          secret = h.secret;
        }
        | false ↦ h
      ]

  is_index : (index : IndexEntry) → IsIndex index → IsIndex (index_with_policy handle digest index)
  is_index index h =
      elim (index.public.index == handle) as (λ b. IsIndex (if b then index_changed index else index)) [
        | true ↦ record {
          least_handle = h.least_handle;
          greatest_handle = h.greatest_handle;
          auth_policy = inr digest.whole;
          auth = h.auth;
          least_size = h.least_size;
          greatest_size = h.greatest_size;
          type_of_size = h.type_of_size;
          content = h.content;
          unwritten = h.unwritten;
        }
        | false ↦ h
      ]

  are_entities : (objects : List ObjectEntry) (indices : List IndexEntry) → AreEntities objects indices → AreEntities (map (object_with_policy handle digest) objects) (map (index_with_policy handle digest) indices)
  are_entities objects indices h =
      let change_object = object_with_policy handle digest in
      let change_index = index_with_policy handle digest in
      record {
        each_object = All-map IsObject change_object objects (λ i d within. is_object (get_or objects i d) (h.each_object i d within));
        each_index = All-map IsIndex change_index indices (λ i d within. is_index (get_or indices i d) (h.each_index i d within));
        object_handles = subst (IsDistinct nat_eq) (sym (kept_by change_object (λ o. o.handle) object_handle objects)) h.object_handles;
        index_handles = subst (IsDistinct nat_eq) (sym (kept_by change_index (λ i. i.public.index) index_handle indices)) h.index_handles;
        paths = subst (λ paths. IsDistinct is_same_path (hierarchy_paths ++ paths ++ map (λ i. i.path) (map change_index indices))) (sym (kept_by change_object (λ o. o.path) object_path objects))
            (subst (λ paths. IsDistinct is_same_path (hierarchy_paths ++ map (λ o. o.path) objects ++ paths)) (sym (kept_by change_index (λ i. i.path) index_path indices)) h.paths);
      }

  pub is_setup : (setup : Setup) → IsSetup setup → IsSetup (setup_with_policy handle digest setup)
  is_setup setup h = record {
    owner = h.owner;
    endorsement = h.endorsement;
    lockout = h.lockout;
    pcrs = h.pcrs;
    time = h.time;
    entities = are_entities setup.objects setup.indices h.entities;
  }

  pub handles_stay : (before setup : Setup) → HasHandlesOf before setup → HasHandlesOf before (setup_with_policy handle digest setup)
  handles_stay before setup same = record {
    objects = kept_by (object_with_policy handle digest) (λ o. o.handle) object_handle setup.objects ∙ same.objects;
    indices = kept_by (index_with_policy handle digest) (λ i. i.public.index) index_handle setup.indices ∙ same.indices;
  }

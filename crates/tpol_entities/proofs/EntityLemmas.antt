-- The entities of a scene that is read meet what the machine asks.
use Rattle.std.proofs.Common.{◌≡◌, ℕ, ◌+◌, ◌≤◌, false, List, [], length, refl, sym, subst, inl}
use Rattle.std.specs.Prelude.{Option, Some, None, IfSome, ⊤, not, ◌==◌, ◌&&◌, codes}
use Rattle.std.specs.List.{IsDistinct, list_any}
use Rattle.std.proofs.lemmas.Bool.{eqb-true, and_parts, not-true}
use Rattle.std.proofs.lemmas.List.{length-replicate}
use Rattle.std.proofs.lemmas.List.Elements.{All-nil}
use Rattle.serde_json.specs.Data.{Data}
use Rattle.serde_json.specs.Find.{get}
use Rattle.tpol_json.proofs.AllFound.{AllFound, all_then}
use Rattle.tpol_json.specs.Places.{at_member}
use Rattle.tpol_json.specs.declared.place.Place.{Place}
use Rattle.tpol_name.specs.Areas.{is_written}
use Rattle.tpol_name.specs.Setups.{IsAuthValue, IsDigestOrEmpty, IsObject, IsIndex, IsTypeOfSize}
use Rattle.tpol_name.specs.declared.areas.Scheme.{Scheme}
use Rattle.tpol_name.specs.declared.areas.Scheme.TheVariants.{Sealed, HmacKey}
use Rattle.tpol_name.specs.declared.entries.IndexEntry.{IndexEntry}
use Rattle.tpol_name.specs.declared.entries.ObjectEntry.{ObjectEntry}
use Rattle.tpol_entities.specs.Entities.{no_entities, has_path, new_path_in, has_handle, new_handle_in, bytes_or_name, policy_name_in, some_policy_in, policy_source_in, heading_in, object_entry_in, index_attributes_in, index_size_in, content_in, content_or_zeros, index_entry_in, object_behind, index_behind, entity_by, entity_in, entities_in}
use Rattle.tpol_base.specs.Attributes.{index_type, is_index_type, is_size_of_type, object_sign, object_user_with_auth}
use Rattle.tpol_json.specs.Values.{any_bytes, is_within_limit}
use Rattle.tpol_entities.specs.Faults.{read_as}
use Rattle.tpol_entities.specs.Kinds.{kind_in, least_handle, greatest_handle}
use Rattle.tpol_json.specs.Members.{optional}
use Rattle.tpol_entities.specs.Members.{needed}
use Rattle.tpol_entities.specs.Values.{object_in, text_in, unsigned_in, u32_in, bytes_up_to, empty_or_32, auth_in}
use Rattle.tpol_entities.specs.declared.entities.Entities.{Entities}
use Rattle.tpol_entities.specs.declared.fault.SceneKind.TheVariants.{Twice, BadState}
use Rattle.tpol_entities.specs.declared.heading.Heading.{Heading}
use Rattle.tpol_entities.specs.declared.heading.PolicySource.{PolicySource}
use Rattle.tpol_entities.specs.declared.kinds.EntityKind.{EntityKind}
use Rattle.tpol_entities.specs.declared.kinds.EntityKind.TheVariants.{Seal, Key, Nv}
use Rattle.tpol_entities.proofs.EntryLemmas.{Entered, object_entered, index_entered, type_of_size, type-with, unwritten-zeros}
use Rattle.tpol_entities.proofs.ValueLemmas.{any_ok, tested, refuted, needed_ok, optional_ok, list_ok, short_ok, empty_or_32_ok, empty_auth, auth_ok, unsigned_ok}

-- ---- what all kinds have

abbrev BytesFit : Option (List ℕ) → Type 0
BytesFit bytes = IfSome bytes IsDigestOrEmpty

abbrev SourceFits : PolicySource → Type 0
SourceFits policy = IsDigestOrEmpty policy.auth_policy

some_policy_ok : (d : Data) (place : Place) → AllFound BytesFit (some_policy_in d place)
some_policy_ok d place = all_then IsDigestOrEmpty BytesFit (empty_or_32 d place) _ (empty_or_32_ok d place) (λ bytes fits. fits)

bytes_or_name_ok : (bytes : Option (List ℕ)) → BytesFit bytes → (there : Option Data) (place : Place) → AllFound SourceFits (bytes_or_name bytes there place)
bytes_or_name_ok None fits None place = inl refl
bytes_or_name_ok None fits (Some d) place = all_then (λ _. ⊤) SourceFits (policy_name_in d place) _ (any_ok _) (λ named _. inl refl)
bytes_or_name_ok (Some bytes) fits None place = fits
bytes_or_name_ok (Some bytes) fits (Some d) place = tt

policy_source_ok : (d : Data) (place : Place) → AllFound SourceFits (policy_source_in d place)
unfolding policy_source_in
policy_source_ok d place =
    all_then BytesFit SourceFits (optional some_policy_in None (codes "authPolicy") d place) _
    (optional_ok BytesFit some_policy_in None tt some_policy_ok (codes "authPolicy") d place)
    (λ bytes fits. bytes_or_name_ok bytes fits (get (codes "policy") d) (at_member place (codes "policy")))

abbrev IsNewPath : Entities → List ℕ → Type 0
IsNewPath entities path = has_path entities path ≡ false

new_path_ok : (entities : Entities) (d : Data) (place : Place) → AllFound (IsNewPath entities) (new_path_in entities d place)
new_path_ok entities d place =
    all_then (λ _. ⊤) (IsNewPath entities) (text_in d place) _ (any_ok _)
    (λ path _. refuted (IsNewPath entities) (has_path entities path) path Twice place (λ e. e))

record IsNewHandle (entities : Entities) (kind : EntityKind) (handle : ℕ) : Type 0 where
  pub least : least_handle kind ≤ handle
  pub greatest : handle ≤ greatest_handle kind
  pub new : has_handle entities kind handle ≡ false

new_handle_ok : (entities : Entities) (kind : EntityKind) (d : Data) (place : Place) → AllFound (IsNewHandle entities kind) (new_handle_in entities kind d place)
new_handle_ok entities kind d place =
    all_then (λ n. (least_handle kind ≤ n) × (n ≤ greatest_handle kind)) (IsNewHandle entities kind) (unsigned_in (least_handle kind) (greatest_handle kind) d place) _
    (unsigned_ok (least_handle kind) (greatest_handle kind) d place)
    (λ handle fits. refuted (IsNewHandle entities kind) (has_handle entities kind handle) handle Twice place (λ e. record { least = fits.0; greatest = fits.1; new = e }))

record HeadingFits (entities : Entities) (kind : EntityKind) (heading : Heading) : Type 0 where
  pub handle : IsNewHandle entities kind heading.handle
  pub path : has_path entities heading.path ≡ false
  pub auth : IsAuthValue heading.auth
  pub policy : IsDigestOrEmpty heading.policy.auth_policy

heading_ok : (entities : Entities) (d : Data) (place : Place) → AllFound (λ heading. HeadingFits entities heading.kind heading) (heading_in entities d place)
unfolding heading_in
heading_ok entities d place =
    let Fits : Heading → Type 0 = λ heading. HeadingFits entities heading.kind heading in
    all_then (λ _. ⊤) Fits (object_in d place) _ (any_ok _) (λ is_object _.
    all_then (λ _. ⊤) Fits (needed kind_in (codes "kind") d place) _ (any_ok _) (λ kind _.
    all_then (IsNewPath entities) Fits (needed (new_path_in entities) (codes "path") d place) _
    (needed_ok (IsNewPath entities) (new_path_in entities) (new_path_ok entities) (codes "path") d place) (λ path new_path.
    all_then (IsNewHandle entities kind) Fits (needed (new_handle_in entities kind) (codes "handle") d place) _
    (needed_ok (IsNewHandle entities kind) (new_handle_in entities kind) (new_handle_ok entities kind) (codes "handle") d place) (λ handle new_handle.
    all_then IsAuthValue Fits (optional auth_in [] (codes "auth") d place) _
    (optional_ok IsAuthValue auth_in [] empty_auth auth_ok (codes "auth") d place) (λ auth is_auth.
    all_then SourceFits Fits (policy_source_in d place) _ (policy_source_ok d place) (λ policy fits.
    record { handle = new_handle; path = new_path; auth = is_auth; policy = fits }))))))

-- ---- objects

record ObjectHeading (entities : Entities) (heading : Heading) : Type 0 where
  pub least : 0x80000000 ≤ heading.handle
  pub greatest : heading.handle ≤ 0x80ffffff
  pub handle : list_any (λ o. o.handle == heading.handle) entities.objects ≡ false
  pub path : has_path entities heading.path ≡ false
  pub auth : IsAuthValue heading.auth
  pub policy : IsDigestOrEmpty heading.policy.auth_policy

record NewObject (entities : Entities) (object : ObjectEntry) : Type 0 where
  pub fits : IsObject object
  pub handle : list_any (λ o. o.handle == object.handle) entities.objects ≡ false
  pub path : has_path entities object.path ≡ false

object_entry_ok : (entities : Entities) (scheme : Scheme) (default : ℕ) (heading : Heading) → ObjectHeading entities heading → (d : Data) (place : Place)
    → AllFound (NewObject entities) (object_entry_in scheme default heading d place)
unfolding object_entry_in
object_entry_ok entities scheme default heading h d place =
    all_then (λ _. ⊤) (NewObject entities) (optional u32_in default (codes "attributes") d place) _ (any_ok _) (λ attributes _.
    all_then (λ s. length s ≤ 128) (NewObject entities) (needed (bytes_up_to 128) (codes "secret") d place) _
    (needed_ok (λ s. length s ≤ 128) (bytes_up_to 128) (short_ok 128) (codes "secret") d place) (λ secret short.
    all_then IsDigestOrEmpty (NewObject entities) (optional empty_or_32 [] (codes "unique") d place) _
    (optional_ok IsDigestOrEmpty empty_or_32 [] (inl refl) empty_or_32_ok (codes "unique") d place) (λ unique is_unique.
    record {
      fits = record { least_handle = h.least; greatest_handle = h.greatest; auth_policy = h.policy; unique = is_unique; auth = h.auth; secret = short };
      handle = h.handle;
      path = h.path;
    })))

object_ok : (entities : Entities) (scheme : Scheme) (default : ℕ) (heading : Heading) → Entered entities → ObjectHeading entities heading → (d : Data) (place : Place)
    → AllFound Entered (object_behind entities scheme default heading d place)
object_ok entities scheme default heading entered h d place =
    all_then (NewObject entities) Entered (object_entry_in scheme default heading d place) _ (object_entry_ok entities scheme default heading h d place)
    (λ object new. object_entered entities object entered new.fits new.handle new.path)

-- ---- indices

record IndexHeading (entities : Entities) (heading : Heading) : Type 0 where
  pub least : 0x01000000 ≤ heading.handle
  pub greatest : heading.handle ≤ 0x01ffffff
  pub handle : list_any (λ i. i.public.index == heading.handle) entities.indices ≡ false
  pub path : has_path entities heading.path ≡ false
  pub auth : IsAuthValue heading.auth
  pub policy : IsDigestOrEmpty heading.policy.auth_policy

record NewIndex (entities : Entities) (index : IndexEntry) : Type 0 where
  pub fits : IsIndex index
  pub handle : list_any (λ i. i.public.index == index.public.index) entities.indices ≡ false
  pub path : has_path entities index.path ≡ false

abbrev IsUnwritten : ℕ → Type 0
IsUnwritten attributes = is_written attributes ≡ false

attributes_ok : (d : Data) (place : Place) → AllFound IsUnwritten (index_attributes_in d place)
unfolding index_attributes_in
attributes_ok d place =
    all_then (λ _. ⊤) IsUnwritten (u32_in d place) _ (any_ok _)
    (λ attributes _. tested IsUnwritten (not (is_written attributes) && is_index_type (index_type attributes)) attributes BadState place (λ e. not-true _ (and_parts _ _ e).0))

record SizeFits (attributes size : ℕ) : Type 0 where
  pub least : 1 ≤ size
  pub greatest : size ≤ 2048
  pub type_of_size : IsTypeOfSize (index_type attributes) size

size_ok : (attributes : ℕ) (d : Data) (place : Place) → AllFound (SizeFits attributes) (index_size_in attributes d place)
size_ok attributes d place =
    all_then (λ n. (1 ≤ n) × (n ≤ 2048)) (SizeFits attributes) (unsigned_in 1 2048 d place) _ (unsigned_ok 1 2048 d place)
    (λ size fits. tested (SizeFits attributes) (is_size_of_type (index_type attributes) size) size BadState place
    (λ e. record { least = fits.0; greatest = fits.1; type_of_size = type_of_size _ _ e }))

abbrev ContentFits : ℕ → Option (List ℕ) → Type 0
ContentFits size content = IfSome content (λ bytes. length bytes ≡ size)

content_ok : (size : ℕ) (d : Data) (place : Place) → AllFound (ContentFits size) (content_in size d place)
content_ok size d place =
    all_then (λ _. ⊤) (ContentFits size) (read_as (any_bytes d place)) _ (any_ok _)
    (λ bytes _. tested (ContentFits size) (length bytes == size) (Some bytes) BadState place (eqb-true _ _))

content_length : (content : Option (List ℕ)) (size : ℕ) → ContentFits size content → length (content_or_zeros content size) ≡ size
content_length None size fits = length-replicate size 0
content_length (Some bytes) size fits = fits

index_entry_ok : (entities : Entities) (heading : Heading) → IndexHeading entities heading → (d : Data) (place : Place) → AllFound (NewIndex entities) (index_entry_in heading d place)
unfolding index_entry_in
index_entry_ok entities heading h d place =
    all_then IsUnwritten (NewIndex entities) (needed index_attributes_in (codes "attributes") d place) _
    (needed_ok IsUnwritten index_attributes_in attributes_ok (codes "attributes") d place) (λ attributes unwritten.
    all_then (SizeFits attributes) (NewIndex entities) (needed (index_size_in attributes) (codes "size") d place) _
    (needed_ok (SizeFits attributes) (index_size_in attributes) (size_ok attributes) (codes "size") d place) (λ size fits.
    all_then (ContentFits size) (NewIndex entities) (optional (content_in size) None (codes "content") d place) _
    (optional_ok (ContentFits size) (content_in size) None tt (content_ok size) (codes "content") d place) (λ content is_content.
    let P : ℕ → Type 0 = λ kind. IsTypeOfSize kind size in
    record {
      fits = record {
        least_handle = h.least;
        greatest_handle = h.greatest;
        auth_policy = h.policy;
        auth = h.auth;
        least_size = fits.least;
        greatest_size = fits.greatest;
        type_of_size = subst P (sym (type-with content attributes unwritten)) fits.type_of_size;
        content = content_length content size is_content;
        unwritten = unwritten-zeros content attributes size;
      };
      handle = h.handle;
      path = h.path;
    })))

index_ok : (entities : Entities) (heading : Heading) → Entered entities → IndexHeading entities heading → (d : Data) (place : Place)
    → AllFound Entered (index_behind entities heading d place)
index_ok entities heading entered h d place =
    all_then (NewIndex entities) Entered (index_entry_in heading d place) _ (index_entry_ok entities heading h d place)
    (λ index new. index_entered entities index entered new.fits new.handle new.path)

-- ---- entities

by_kind_ok : (kind : EntityKind) (entities : Entities) (heading : Heading) → Entered entities → HeadingFits entities kind heading → (d : Data) (place : Place)
    → AllFound Entered (entity_by kind entities heading d place)
unfolding entity_by has_handle
by_kind_ok Seal entities heading entered fits d place =
    object_ok entities Sealed object_user_with_auth heading entered (record { least = fits.handle.least; greatest = fits.handle.greatest; handle = fits.handle.new; path = fits.path; auth = fits.auth; policy = fits.policy }) d place
by_kind_ok Key entities heading entered fits d place =
    object_ok entities HmacKey (object_user_with_auth + object_sign) heading entered (record { least = fits.handle.least; greatest = fits.handle.greatest; handle = fits.handle.new; path = fits.path; auth = fits.auth; policy = fits.policy }) d place
by_kind_ok Nv entities heading entered fits d place =
    index_ok entities heading entered (record { least = fits.handle.least; greatest = fits.handle.greatest; handle = fits.handle.new; path = fits.path; auth = fits.auth; policy = fits.policy }) d place

entity_ok : (entities : Entities) (index : ℕ) (d : Data) (place : Place) → Entered entities → AllFound Entered (entity_in entities index d place)
unfolding entity_in
entity_ok entities index d place entered =
    all_then (λ _. ⊤) Entered (read_as (is_within_limit 256 index place)) _ (any_ok _) (λ is_within _.
    all_then (λ heading. HeadingFits entities heading.kind heading) Entered (heading_in entities d place) _ (heading_ok entities d place) (λ heading fits.
    by_kind_ok heading.kind entities heading entered fits d place))

no_entities_entered : Entered no_entities
unfolding IsDistinct
no_entities_entered = record {
  each_object = All-nil IsObject;
  each_index = All-nil IsIndex;
  object_handles = tt;
  index_handles = tt;
  paths = ((refl, (refl, tt)), ((refl, tt), (tt, tt)));
}

pub entities_ok : (d : Data) (place : Place) → AllFound Entered (optional entities_in no_entities (codes "entities") d place)
entities_ok d place =
    optional_ok Entered entities_in no_entities no_entities_entered (list_ok Entered entity_in entity_ok no_entities no_entities_entered) (codes "entities") d place

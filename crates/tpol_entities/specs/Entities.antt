-- The entities of a scene.
use Rattle.std.specs.Prelude.{ℕ, ◌+◌, ◌==◌, ◌&&◌, ◌||◌, not, bit_or, List, [], ◌∷◌, ◌++◌, length, replicate, codes, Bool, Option, Some, None, is_some, Result, Ok, if◌then◌else◌}
use Rattle.std.specs.List.{list_any}
use Rattle.serde_json.specs.Data.{Data}
use Rattle.serde_json.specs.Find.{get}
use Rattle.tpol_base.specs.Answers.{◌>>=◌}
use Rattle.tpol_base.specs.Attributes.{index_type, is_index_type, is_size_of_type, nv_written, object_sign, object_user_with_auth}
use Rattle.tpol_base.specs.PolicyName.{without_folder}
use Rattle.tpol_json.specs.Places.{at_member}
use Rattle.tpol_json.specs.Values.{any_bytes, is_within_limit}
use Rattle.tpol_json.specs.declared.fault.Fault.{Fault}
use Rattle.tpol_json.specs.declared.place.Place.{Place}
use Rattle.tpol_name.specs.Areas.{is_written}
use Rattle.tpol_name.specs.Entities.{hierarchy_at, index_at, object_at}
use Rattle.tpol_name.specs.declared.areas.Scheme.{Scheme}
use Rattle.tpol_name.specs.declared.areas.Scheme.TheVariants.{Sealed, HmacKey}
use Rattle.tpol_name.specs.declared.entries.IndexEntry.{IndexEntry}
use Rattle.tpol_name.specs.declared.entries.ObjectEntry.{ObjectEntry}
use Rattle.tpol_entities.specs.declared.entities.Entities.{Entities}
use Rattle.tpol_entities.specs.declared.entities.EntityPolicy.{EntityPolicy}
use Rattle.tpol_entities.specs.declared.entries.IndexRest.{IndexRest}
use Rattle.tpol_entities.specs.declared.entries.ObjectRest.{ObjectRest}
use Rattle.tpol_entities.specs.declared.fault.SceneKind.{SceneKind}
use Rattle.tpol_entities.specs.declared.heading.Heading.{Heading}
use Rattle.tpol_entities.specs.declared.heading.NamedPolicy.{NamedPolicy}
use Rattle.tpol_entities.specs.declared.heading.PolicySource.{PolicySource}
use Rattle.tpol_entities.specs.declared.kinds.EntityKind.{EntityKind}
use Rattle.tpol_entities.specs.declared.kinds.EntityKind.TheVariants.{Seal, Key, Nv}
use Rattle.tpol_entities.specs.declared.fault.SceneKind.TheVariants.{Twice, BadState}
use Rattle.tpol_entities.specs.Faults.{Found, GivesBy, read_as}
use Rattle.tpol_json.specs.Reading.{bad}
use Rattle.tpol_entities.specs.Kinds.{kind_in, least_handle, greatest_handle}
use Rattle.tpol_entities.specs.Lists.{ItemReading, list_in}
use Rattle.tpol_json.specs.Members.{optional}
use Rattle.tpol_entities.specs.Members.{needed}
use Rattle.tpol_entities.specs.Values.{object_in, text_in, unsigned_in, u32_in, bytes_up_to, empty_or_32, auth_in}

abbrev pub no_entities : Entities
no_entities = record { objects = []; indices = []; policies = [] }

-- whether a hierarchy or an entity has this path
unfoldable pub has_path : Entities → List ℕ → Bool
has_path entities path =
    is_some (hierarchy_at path) || is_some (object_at entities.objects path) || is_some (index_at entities.indices path)

-- a path that no hierarchy and no entity has
abbrev pub new_path_in : Entities → Data → Place → Found (List ℕ)
new_path_in entities d place = do
  path ← text_in d place
  if has_path entities path then bad Twice place else Ok path

-- whether an entity of this kind has this handle; objects and indices have different ones
unfoldable pub has_handle : Entities → EntityKind → ℕ → Bool
has_handle entities Seal handle = list_any (λ object. object.handle == handle) entities.objects
has_handle entities Key handle = list_any (λ object. object.handle == handle) entities.objects
has_handle entities Nv handle = list_any (λ index. index.public.index == handle) entities.indices

-- a handle of the kind that no entity has
abbrev pub new_handle_in : Entities → EntityKind → Data → Place → Found ℕ
new_handle_in entities kind d place = do
  handle ← unsigned_in (least_handle kind) (greatest_handle kind) d place
  if has_handle entities kind handle then bad Twice place else Ok handle

-- a policy by its name, and where it stands
abbrev pub policy_name_in : Data → Place → Found NamedPolicy
policy_name_in d place = text_in d place >>= λ text. Ok (record { name = without_folder text; place = place })

abbrev pub named_policy_in : Data → Place → Found PolicySource
named_policy_in d place = policy_name_in d place >>= λ named. Ok (record { auth_policy = []; named = Some named })

abbrev pub bytes_or_name : Option (List ℕ) → Option Data → Place → Found PolicySource
bytes_or_name None None place = Ok (record { auth_policy = []; named = None })
bytes_or_name None (Some d) place = named_policy_in d place
bytes_or_name (Some bytes) None place = Ok (record { auth_policy = bytes; named = None })
bytes_or_name (Some bytes) (Some d) place = bad Twice place

abbrev pub some_policy_in : Data → Place → Found (Option (List ℕ))
some_policy_in d place = empty_or_32 d place >>= λ bytes. Ok (Some bytes)

-- at most one of `authPolicy` and `policy`
unfoldable pub policy_source_in : Data → Place → Found PolicySource
policy_source_in d place = do
  bytes ← optional some_policy_in None (codes "authPolicy") d place
  bytes_or_name bytes (get (codes "policy") d) (at_member place (codes "policy"))

-- what entities of every kind have
unfoldable pub heading_in : Entities → Data → Place → Found Heading
heading_in entities d place = do
  is_object ← object_in d place
  kind ← needed kind_in (codes "kind") d place
  path ← needed (new_path_in entities) (codes "path") d place
  handle ← needed (new_handle_in entities kind) (codes "handle") d place
  auth ← optional auth_in [] (codes "auth") d place
  policy ← policy_source_in d place
  Ok (record { kind = kind; path = path; handle = handle; auth = auth; policy = policy })

-- an object of this scheme: its heading, and what stands behind it
abbrev pub object_with : Scheme → Heading → ObjectRest → ObjectEntry
object_with scheme heading rest = record {
  path = heading.path;
  handle = heading.handle;
  public = record { attributes = rest.attributes; auth_policy = heading.policy.auth_policy; scheme = scheme; unique = rest.unique };
  auth = heading.auth;
  secret = rest.secret;
}

-- an object of this scheme, with its attributes where the scene gives none
unfoldable pub object_entry_in : Scheme → ℕ → Heading → Data → Place → Found ObjectEntry
object_entry_in scheme default heading d place = do
  attributes ← optional u32_in default (codes "attributes") d place
  secret ← needed (bytes_up_to 128) (codes "secret") d place
  unique ← optional empty_or_32 [] (codes "unique") d place
  Ok (object_with scheme heading (record { attributes = attributes; secret = secret; unique = unique }))

-- a call gives what stands in an object behind its heading, whatever its heading and its scheme
abbrev pub GivesObjectRest : ℕ → Result ObjectRest (Fault SceneKind) → Data → Place → Type 0
GivesObjectRest default result d place =
    (scheme : Scheme) (heading : Heading) → GivesBy (object_with scheme heading) result (object_entry_in scheme default heading d place)

-- the attributes of an index, without WRITTEN and of one of these types
unfoldable pub index_attributes_in : Data → Place → Found ℕ
index_attributes_in d place = do
  attributes ← u32_in d place
  if not (is_written attributes) && is_index_type (index_type attributes) then Ok attributes else bad BadState place

-- 1 to 2,048 bytes, as many as the type asks for
abbrev pub index_size_in : ℕ → Data → Place → Found ℕ
index_size_in attributes d place = do
  size ← unsigned_in 1 2048 d place
  if is_size_of_type (index_type attributes) size then Ok size else bad BadState place

-- a content of this size
abbrev pub content_in : ℕ → Data → Place → Found (Option (List ℕ))
content_in size d place = do
  bytes ← read_as (any_bytes d place)
  if length bytes == size then Ok (Some bytes) else bad BadState place

-- the attributes of an index: with a content WRITTEN is set
abbrev pub attributes_with : Option (List ℕ) → ℕ → ℕ
attributes_with None attributes = attributes
attributes_with (Some content) attributes = bit_or attributes nv_written

-- the content that is given, or zero bytes
abbrev pub content_or_zeros : Option (List ℕ) → ℕ → List ℕ
content_or_zeros None size = replicate size 0
content_or_zeros (Some content) size = content

-- an index: its heading, and what stands behind it
abbrev pub index_with : Heading → IndexRest → IndexEntry
index_with heading rest = record {
  path = heading.path;
  public = record { index = heading.handle; attributes = rest.attributes; auth_policy = heading.policy.auth_policy; size = rest.size };
  auth = heading.auth;
  content = rest.content;
}

unfoldable pub index_entry_in : Heading → Data → Place → Found IndexEntry
index_entry_in heading d place = do
  attributes ← needed index_attributes_in (codes "attributes") d place
  size ← needed (index_size_in attributes) (codes "size") d place
  content ← optional (content_in size) None (codes "content") d place
  Ok (index_with heading (record { attributes = attributes_with content attributes; size = size; content = content_or_zeros content size }))

-- a call gives what stands in an index behind its heading, whatever its heading
abbrev pub GivesIndexRest : Result IndexRest (Fault SceneKind) → Data → Place → Type 0
GivesIndexRest result d place = (heading : Heading) → GivesBy (index_with heading) result (index_entry_in heading d place)

-- the policies that entities name, with that of the entity with this handle behind these ones
abbrev pub policies_with : Entities → ℕ → Option NamedPolicy → List EntityPolicy
policies_with entities handle None = entities.policies
policies_with entities handle (Some named) = entities.policies ++ record {
  handle = handle;
  objects_before = length entities.objects;
  indices_before = length entities.indices;
  name = named.name;
  place = named.place;
} ∷ []

-- the entities with one more object, or one more index
abbrev pub with_object : Entities → Heading → ObjectEntry → Entities
with_object entities heading object = record {
  objects = entities.objects ++ object ∷ [];
  indices = entities.indices;
  policies = policies_with entities object.handle heading.policy.named;
}

abbrev pub with_index : Entities → Heading → IndexEntry → Entities
with_index entities heading index = record {
  objects = entities.objects;
  indices = entities.indices ++ index ∷ [];
  policies = policies_with entities index.public.index heading.policy.named;
}

-- an object or an index, and the policy that its heading names
abbrev pub object_and_policy_in : Scheme → ℕ → Heading → Data → Place → Found (ObjectEntry × Option NamedPolicy)
object_and_policy_in scheme default heading d place =
    object_entry_in scheme default heading d place >>= λ object. Ok (object, heading.policy.named)

abbrev pub index_and_policy_in : Heading → Data → Place → Found (IndexEntry × Option NamedPolicy)
index_and_policy_in heading d place = index_entry_in heading d place >>= λ index. Ok (index, heading.policy.named)

-- the entities and then an object or an index
abbrev pub object_behind : Entities → Scheme → ℕ → Heading → Data → Place → Found Entities
object_behind entities scheme default heading d place =
    object_entry_in scheme default heading d place >>= λ object. Ok (with_object entities heading object)

abbrev pub index_behind : Entities → Heading → Data → Place → Found Entities
index_behind entities heading d place = index_entry_in heading d place >>= λ index. Ok (with_index entities heading index)

-- what stands in an entity behind its heading, by its kind
unfoldable pub entity_by : EntityKind → Entities → Heading → Data → Place → Found Entities
entity_by Seal entities heading d place = object_behind entities Sealed object_user_with_auth heading d place
entity_by Key entities heading d place = object_behind entities HmacKey (object_user_with_auth + object_sign) heading d place
entity_by Nv entities heading d place = index_behind entities heading d place

-- an item of `entities`; one past the 256th is not read
unfoldable pub entity_in : ItemReading Entities
entity_in entities index d place = do
  is_within ← read_as (is_within_limit 256 index place)
  heading ← heading_in entities d place
  entity_by heading.kind entities heading d place

-- a list of entities
abbrev pub entities_in : Data → Place → Found Entities
entities_in = list_in entity_in no_entities

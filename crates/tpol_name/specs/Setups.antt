-- The conditions on what a machine starts from and on what it shows.
use Rattle.std.specs.Prelude.{◌≡◌, ℕ, ◌^◌, ◌≤◌, ◌⊎◌, false, nat_eq, List, [], ◌∷◌, ◌++◌, length, map, replicate, codes, All}
use Rattle.std.specs.List.{IsDistinct, suffix_len}
use Rattle.tpol_name.specs.declared.entries.IndexEntry.{IndexEntry}
use Rattle.tpol_name.specs.declared.entries.ObjectEntry.{ObjectEntry}
use Rattle.tpol_name.specs.declared.setup.Setup.{Setup}
use Rattle.tpol_name.specs.declared.sight.Sight.{Sight}
use Rattle.tpol_name.specs.Areas.{is_written}
pub use Rattle.tpol_base.specs.Attributes.{index_type}
use Rattle.tpol_name.specs.Paths.{is_same_path}

-- a digest, or nothing
abbrev pub IsDigestOrEmpty : List ℕ → Type 0
IsDigestOrEmpty bytes = (length bytes ≡ 0) ⊎ (length bytes ≡ 32)

-- an authorization value: at most 32 bytes, and the last is not zero
pub record IsAuthValue (bytes : List ℕ) : Type 0 where
  pub size : length bytes ≤ 32
  pub trimmed : suffix_len (nat_eq 0) bytes ≡ 0

-- an object of a scene
pub record IsObject (object : ObjectEntry) : Type 0 where
  pub least_handle : 0x80000000 ≤ object.handle
  pub greatest_handle : object.handle ≤ 0x80ffffff
  pub auth_policy : IsDigestOrEmpty object.public.auth_policy
  pub unique : IsDigestOrEmpty object.public.unique
  pub auth : IsAuthValue object.auth
  pub secret : length object.secret ≤ 128

-- the types of indices: ordinary, counter, bit field and extend, with the sizes of their contents
abbrev pub IsTypeOfSize : ℕ → ℕ → Type 0
IsTypeOfSize kind size =
    (kind ≡ 0) ⊎ ((kind ≡ 1) × (size ≡ 8)) ⊎ ((kind ≡ 2) × (size ≡ 8)) ⊎ ((kind ≡ 4) × (size ≡ 32))

-- an index of a scene: its content has its size, and is zero bytes while the index is not written
pub record IsIndex (entry : IndexEntry) : Type 0 where
  pub least_handle : 0x01000000 ≤ entry.public.index
  pub greatest_handle : entry.public.index ≤ 0x01ffffff
  pub auth_policy : IsDigestOrEmpty entry.public.auth_policy
  pub auth : IsAuthValue entry.auth
  pub least_size : 1 ≤ entry.public.size
  pub greatest_size : entry.public.size ≤ 2048
  pub type_of_size : IsTypeOfSize (index_type entry.public.attributes) entry.public.size
  pub content : length entry.content ≡ entry.public.size
  pub unwritten : is_written entry.public.attributes ≡ false → entry.content ≡ replicate entry.public.size 0

-- the paths of the hierarchies, which no entity has
abbrev pub hierarchy_paths : List (List ℕ)
hierarchy_paths = codes "HS" ∷ codes "HE" ∷ codes "LOCKOUT" ∷ []

-- the entities of a scene: no handle and no path stands twice
pub record AreEntities (objects : List ObjectEntry) (indices : List IndexEntry) : Type 0 where
  pub each_object : All IsObject objects
  pub each_index : All IsIndex indices
  pub object_handles : IsDistinct nat_eq (map (λ o. o.handle) objects)
  pub index_handles : IsDistinct nat_eq (map (λ i. i.public.index) indices)
  pub paths : IsDistinct is_same_path
      (hierarchy_paths ++ map (λ o. o.path) objects ++ map (λ i. i.path) indices)

-- what a machine starts from
pub record IsSetup (setup : Setup) : Type 0 where
  pub owner : IsAuthValue setup.owner
  pub endorsement : IsAuthValue setup.endorsement
  pub lockout : IsAuthValue setup.lockout
  pub pcrs : length setup.pcrs ≡ 24
  pub time : setup.time ≤ 2 ^ 62
  pub entities : AreEntities setup.objects setup.indices

-- what a machine shows
pub record IsSight (sight : Sight) : Type 0 where
  pub pcrs : length sight.pcrs ≡ 24
  pub time : sight.time ≤ 2 ^ 63
  pub entities : AreEntities sight.objects sight.indices

-- a setup with other entities
abbrev pub with_entities : Setup → List ObjectEntry → List IndexEntry → Setup
with_entities setup objects indices = record setup { objects = objects; indices = indices }

-- what a machine shows that just started: 64 sessions are free
abbrev pub first_sight : Setup → Sight
first_sight setup = record {
  objects = setup.objects;
  indices = setup.indices;
  owner = setup.owner;
  endorsement = setup.endorsement;
  lockout = setup.lockout;
  pcrs = setup.pcrs;
  pcr_counter = setup.pcr_counter;
  time = setup.time;
  reset_count = setup.reset_count;
  restart_count = setup.restart_count;
  safe = setup.safe;
  presence = setup.presence;
  free_sessions = 64;
}

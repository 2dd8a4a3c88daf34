-- The entities that Names stand for, and the Names of handles. The directory of a machine lists its objects and
-- then its indices, an index by the Name that it has once written.
use Rattle.std.specs.Prelude.{ℕ, Bool, ◌==◌, ◌&&◌, ◌||◌, List, Option, Some, None, find, option_map, unwrap_or, if◌then◌else◌}
use Rattle.std.specs.Option.{option_or}
use Rattle.tpol_base.specs.declared.name.Name.{Name}
use Rattle.tpol_base.specs.declared.name.Name.TheVariants.{Empty, Handle, Hash}
use Rattle.tpol_base.specs.Handle.{is_index, is_object, rh_endorsement, rh_lockout, rh_owner}
use Rattle.tpol_base.specs.Name.{is_same_name}
use Rattle.tpol_name.specs.declared.entries.DirEntry.{DirEntry}
use Rattle.tpol_name.specs.declared.entries.IndexEntry.{IndexEntry}
use Rattle.tpol_name.specs.declared.entries.ObjectEntry.{ObjectEntry}
use Rattle.tpol_name.specs.declared.sight.Sight.{Sight}
use Rattle.tpol_name.specs.Areas.{index_name, object_name, with_written}

-- the hierarchy whose four bytes a Name is
abbrev pub is_hierarchy : ℕ → Bool
is_hierarchy handle = handle == rh_owner || handle == rh_endorsement || handle == rh_lockout

abbrev pub hierarchy_of_name : Name → Option ℕ
hierarchy_of_name Empty = None
hierarchy_of_name (Handle handle) = if is_hierarchy handle then Some handle else None
hierarchy_of_name (Hash digest) = None

-- the first line of the directory with this Name
abbrev pub line_of_name : List DirEntry → Name → Option DirEntry
line_of_name directory name = find (λ entry. is_same_name entry.name name) directory

-- what a Name stands for where a hierarchy, an object or an index may stand: the hierarchy, else the first
-- line with the Name
abbrev pub entity_of_name : List DirEntry → Name → Option ℕ
entity_of_name directory name =
    option_or (hierarchy_of_name name) (option_map (λ entry. entry.handle) (line_of_name directory name))

-- the first object and the first index with this Name
abbrev pub object_of_name : List DirEntry → Name → Option DirEntry
object_of_name directory name = find (λ entry. is_object entry.handle && is_same_name entry.name name) directory

abbrev pub index_of_name : List DirEntry → Name → Option DirEntry
index_of_name directory name = find (λ entry. is_index entry.handle && is_same_name entry.name name) directory

-- the Name of a handle: the directory's, else the handle's four bytes
abbrev pub name_of_handle : List DirEntry → ℕ → Name
name_of_handle directory handle =
    unwrap_or (option_map (λ entry. entry.name) (find (λ entry. entry.handle == handle) directory)) (Handle handle)

-- ---- the same for what a sight shows

abbrev pub object_in_sight : Sight → Name → Option ObjectEntry
object_in_sight sight name = find (λ object. is_same_name (object_name object.public) name) sight.objects

abbrev pub index_in_sight : Sight → Name → Option IndexEntry
index_in_sight sight name = find (λ index. is_same_name (index_name (with_written index.public)) name) sight.indices

abbrev pub entity_in_sight : Sight → Name → Option ℕ
entity_in_sight sight name =
    option_or (hierarchy_of_name name)
    (option_or (option_map (λ object. object.handle) (object_in_sight sight name))
    (option_map (λ index. index.public.index) (index_in_sight sight name)))

-- ---- by handle

-- the object and the index with a handle
abbrev pub object_of_handle : Sight → ℕ → Option ObjectEntry
object_of_handle sight handle = find (λ object. object.handle == handle) sight.objects

abbrev pub index_of_handle : Sight → ℕ → Option IndexEntry
index_of_handle sight handle = find (λ index. index.public.index == handle) sight.indices

-- the Name of a handle as its entity is: of an object, of an index as it is now, and else the handle's four bytes
abbrev pub name_of_index_or_handle : ℕ → Option IndexEntry → Name
name_of_index_or_handle handle None = Handle handle
name_of_index_or_handle handle (Some index) = index_name index.public

abbrev pub name_of_object_or_other : Sight → ℕ → Option ObjectEntry → Name
name_of_object_or_other sight handle None = name_of_index_or_handle handle (index_of_handle sight handle)
name_of_object_or_other sight handle (Some object) = object_name object.public

abbrev pub name_in_sight : Sight → ℕ → Name
name_in_sight sight handle = name_of_object_or_other sight handle (object_of_handle sight handle)

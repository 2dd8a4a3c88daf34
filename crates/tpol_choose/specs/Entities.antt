-- The entities that a sight shows, with their handles and their Names.
use Rattle.std.specs.Prelude.{ℕ, ◌==◌, List, Option, option_map, if◌then◌else◌}
use Rattle.std.specs.Option.{option_or}
use Rattle.tpol_base.specs.declared.name.Name.{Name}
use Rattle.tpol_base.specs.declared.name.Name.TheVariants.{Handle}
use Rattle.tpol_base.specs.Handle.{rh_endorsement, rh_owner}
use Rattle.tpol_goal.specs.Entities.{hierarchy_of_name, index_in_sight, object_in_sight}
use Rattle.tpol_name.specs.declared.entries.IndexEntry.{IndexEntry}
use Rattle.tpol_name.specs.declared.entries.ObjectEntry.{ObjectEntry}
use Rattle.tpol_name.specs.declared.sight.Sight.{Sight}
use Rattle.tpol_name.specs.Areas.{index_name, object_name, with_written}
use Rattle.tpm_rules.specs.Entity.{Entity, Hierarchy, Object, Index}

-- an entity that may be authorized, with its handle
pub record EntityAt : Type 0 where
  pub handle : ℕ
  pub entity : Entity

-- the authorization value of the owner, of the endorsement hierarchy, and of the lockout
abbrev pub hierarchy_value : Sight → ℕ → List ℕ
hierarchy_value sight handle =
    if handle == rh_owner then sight.owner else (if handle == rh_endorsement then sight.endorsement else sight.lockout)

abbrev pub hierarchy_at : Sight → ℕ → EntityAt
hierarchy_at sight handle = record { handle = handle; entity = Hierarchy handle (hierarchy_value sight handle) }

abbrev pub object_at : ObjectEntry → EntityAt
object_at object = record { handle = object.handle; entity = Object object }

abbrev pub index_at : IndexEntry → EntityAt
index_at index = record { handle = index.public.index; entity = Index index }

-- what a Name stands for: the hierarchy whose handle it is, else the first object with the Name, else the first
-- index that has it once it is written
abbrev pub entity_of_name : Sight → Name → Option EntityAt
entity_of_name sight name =
    option_or (option_map (hierarchy_at sight) (hierarchy_of_name name))
    (option_or (option_map object_at (object_in_sight sight name))
    (option_map index_at (index_in_sight sight name)))

-- ---- Names

-- the Name that an entity has as it is; of what has no public area it is the handle
abbrev pub name_as_is : ℕ → Entity → Name
name_as_is handle (Object object) = object_name object.public
name_as_is handle (Index index) = index_name index.public
name_as_is handle entity = Handle handle

-- the Name that a directory lists, where an index stands with the Name that it has once it is written
abbrev pub name_in_directory : ℕ → Entity → Name
name_in_directory handle (Index index) = index_name (with_written index.public)
name_in_directory handle entity = name_as_is handle entity

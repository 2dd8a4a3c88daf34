-- The Names of what a policy names by a path or by a public area. Without a sight only the hierarchies are
-- there.
use Rattle.std.specs.Prelude.{ℕ, Bool, true, false, List, [], Option, Some, None, Result, Ok, Err, if◌then◌else◌}
use Rattle.std.specs.Result.{result_unwrap_or}
use Rattle.tpol_base.specs.declared.name.Name.{Name}
use Rattle.tpol_base.specs.declared.name.Name.TheVariants.{Empty, Handle}
use Rattle.tpol_fill.specs.declared.fault.FillKind.{FillKind}
use Rattle.tpol_fill.specs.declared.fault.FillKind.TheVariants.{NoSuchPath, NotKeyedHash}
use Rattle.tpol_name.specs.declared.areas.NvPublic.{NvPublic}
use Rattle.tpol_name.specs.declared.areas.ObjectPublic.{ObjectPublic}
use Rattle.tpol_name.specs.declared.areas.Scheme.{Scheme}
use Rattle.tpol_name.specs.declared.areas.Scheme.TheVariants.{Sealed, HmacKey}
use Rattle.tpol_name.specs.declared.entries.IndexEntry.{IndexEntry}
use Rattle.tpol_name.specs.declared.entries.ObjectEntry.{ObjectEntry}
use Rattle.tpol_name.specs.declared.sight.Sight.{Sight}
use Rattle.tpol_name.specs.Areas.{index_name, is_signing_key, object_name, with_written}
use Rattle.tpol_name.specs.Entities.{hierarchy_at, index_at, object_at}
use Rattle.tpol_tree.specs.declared.wishes.EntityWish.{EntityWish}
use Rattle.tpol_tree.specs.declared.wishes.EntityWish.TheVariants.{Path as EntityPath, Named as EntityNamed}
use Rattle.tpol_tree.specs.declared.wishes.IndexWish.{IndexWish}
use Rattle.tpol_tree.specs.declared.wishes.IndexWish.TheVariants.{Path as IndexPath, Public as IndexPublic}
use Rattle.tpol_tree.specs.declared.wishes.KeyWish.{KeyWish}
use Rattle.tpol_tree.specs.declared.wishes.KeyWish.TheVariants.{Path as KeyPath, Public as KeyPublic}
use Rattle.tpol_tree.specs.declared.wishes.NvPublicText.{NvPublicText}
use Rattle.tpol_tree.specs.declared.wishes.ObjectPublicText.{ObjectPublicText}
use Rattle.tpol_tree.specs.declared.wishes.ParentWish.{ParentWish}
use Rattle.tpol_tree.specs.declared.wishes.ParentWish.TheVariants.{Path as ParentPath, Public as ParentPublic, Named as ParentNamed}

-- the objects and the indices that are there
abbrev pub objects_of : Option Sight → List ObjectEntry
objects_of None = []
objects_of (Some sight) = sight.objects

abbrev pub indices_of : Option Sight → List IndexEntry
indices_of None = []
indices_of (Some sight) = sight.indices

-- public areas as they are written
abbrev pub scheme_of : Bool → Scheme
scheme_of true = HmacKey
scheme_of false = Sealed

abbrev pub object_area_of : ObjectPublicText → ObjectPublic
object_area_of text = record {
  attributes = text.attributes;
  auth_policy = text.auth_policy;
  scheme = scheme_of text.hmac;
  unique = text.unique;
}

abbrev pub index_area_of : NvPublicText → NvPublic
index_area_of text = record {
  index = text.index;
  attributes = text.attributes;
  auth_policy = text.auth_policy;
  size = text.size;
}

-- a Name, or why there is none
abbrev pub Named : Type 0
Named = Result Name FillKind

-- the Name, or the empty one where there is none
abbrev pub or_empty : Named → Name
or_empty named = result_unwrap_or named Empty

-- the Name of an HMAC key that may sign
abbrev pub signing_key_name : ObjectPublic → Named
signing_key_name public = if is_signing_key public then Ok (object_name public) else Err NotKeyedHash

abbrev pub found_key_name : Option ObjectEntry → Named
found_key_name None = Err NoSuchPath
found_key_name (Some object) = signing_key_name object.public

-- the Name of a key
abbrev pub key_name : KeyWish → Option Sight → Named
key_name (KeyPath path) sight = found_key_name (object_at (objects_of sight) path)
key_name (KeyPublic text) sight = signing_key_name (object_area_of text)

abbrev pub found_index_name : Option IndexEntry → Named
found_index_name None = Err NoSuchPath
found_index_name (Some index) = Ok (index_name (with_written index.public))

-- the Name of an index: of one named by path that of the written index, of a public area as it is given
abbrev pub name_of_index_wish : IndexWish → Option Sight → Named
name_of_index_wish (IndexPath path) sight = found_index_name (index_at (indices_of sight) path)
name_of_index_wish (IndexPublic text) sight = Ok (index_name (index_area_of text))

abbrev pub found_object_name : Option ObjectEntry → Named → Named
found_object_name None other = other
found_object_name (Some object) other = Ok (object_name object.public)

abbrev pub found_hierarchy_name : Option ℕ → Named → Named
found_hierarchy_name None other = other
found_hierarchy_name (Some handle) other = Ok (Handle handle)

-- the Name of the hierarchy, the object or the index that has this path
abbrev pub path_name : List ℕ → Option Sight → Named
path_name path sight =
    found_hierarchy_name (hierarchy_at path)
    (found_object_name (object_at (objects_of sight) path) (found_index_name (index_at (indices_of sight) path)))

-- the Name of an entity
abbrev pub entity_name : EntityWish → Option Sight → Named
entity_name (EntityPath path) sight = path_name path sight
entity_name (EntityNamed name) sight = Ok name

-- the Name of a new parent, which may be any object
abbrev pub parent_name : ParentWish → Option Sight → Named
parent_name (ParentPath path) sight = found_object_name (object_at (objects_of sight) path) (Err NoSuchPath)
parent_name (ParentPublic text) sight = Ok (object_name (object_area_of text))
parent_name (ParentNamed name) sight = Ok name

-- Directories of entities.
use Rattle.std.specs.Prelude.{List, ◌++◌, map}
use Rattle.tpol_name.specs.declared.entries.DirEntry.{DirEntry}
use Rattle.tpol_name.specs.declared.entries.IndexEntry.{IndexEntry}
use Rattle.tpol_name.specs.declared.entries.ObjectEntry.{ObjectEntry}
use Rattle.tpol_name.specs.declared.setup.Setup.{Setup}
use Rattle.tpol_name.specs.Areas.{object_name, index_name, with_written}

-- an object's line
abbrev pub line_of_object : ObjectEntry → DirEntry
line_of_object entry = record {
  path = entry.path;
  handle = entry.handle;
  name = object_name entry.public;
  attributes = entry.public.attributes;
}

-- an index's line; its Name is that of the written index
abbrev pub line_of_index : IndexEntry → DirEntry
line_of_index entry = record {
  path = entry.path;
  handle = entry.public.index;
  name = index_name (with_written entry.public);
  attributes = entry.public.attributes;
}

-- the objects and then the indices, in order
abbrev pub lines_of : List ObjectEntry → List IndexEntry → List DirEntry
lines_of objects indices = map line_of_object objects ++ map line_of_index indices

-- the directory of a setup
abbrev pub directory_of : Setup → List DirEntry
directory_of setup = lines_of setup.objects setup.indices

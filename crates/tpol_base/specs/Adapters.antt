-- The adapters over the real outside: what they stand on, and how often it failed.
use Rattle.std.specs.Prelude.{ℕ, List}
use Rattle.std.specs.String.{string_bytes}
use Rattle.tpol_base.specs.declared.folder_shelf.FolderShelf.{FolderShelf}
use Rattle.tpol_base.specs.declared.std_sink.StdSink.{StdSink}
use Rattle.tpol_base.specs.declared.std_source.StdSource.{StdSource}

-- the writer of a sink
abbrev pub writer : {W : Type 0} → StdSink W → W
writer sink = sink.writer

-- how often it failed
abbrev pub sink_faults : {W : Type 0} → StdSink W → ℕ
sink_faults sink = sink.faults

-- the reader of a source
abbrev pub reader : {R : Type 0} → StdSource R → R
reader source = source.reader

-- how often it failed
abbrev pub source_faults : {R : Type 0} → StdSource R → ℕ
source_faults source = source.faults

-- the folder of a shelf, by its path
abbrev pub folder_of : {R A B : Type 0} → FolderShelf R A B → List ℕ
folder_of shelf = string_bytes shelf.folder

-- how often it failed
abbrev pub shelf_faults : {R A B : Type 0} → FolderShelf R A B → ℕ
shelf_faults shelf = shelf.faults

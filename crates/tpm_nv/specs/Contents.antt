-- The content of an index, and what a write makes of it.
use Rattle.std.specs.Prelude.{◌≡◌, ℕ, ◌+◌, List, ◌++◌, length, take, drop}
use Rattle.tpol_base.specs.Attributes.{index_type, nt_counter}
use Rattle.tpol_name.specs.declared.entries.IndexEntry.{IndexEntry}
use Rattle.tpol_name.specs.Areas.{with_written}

-- the content has the size that the public area says, which is 8 bytes for a counter
pub record HasContent (entry : IndexEntry) : Type 0 where
  pub size : length entry.content ≡ entry.public.size
  pub counter : index_type entry.public.attributes ≡ nt_counter → entry.public.size ≡ 8

-- a content with bytes in the place of as many, from the offset on
abbrev pub spliced : ℕ → List ℕ → List ℕ → List ℕ
spliced offset bytes content = take offset content ++ bytes ++ drop (offset + length bytes) content

-- an index after such a write, which sets WRITTEN
abbrev pub written_entry : ℕ → List ℕ → IndexEntry → IndexEntry
written_entry offset bytes entry = record entry {
  public = with_written entry.public;
  content = spliced offset bytes entry.content;
}

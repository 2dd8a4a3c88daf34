-- Counters (TPM 2.0 Part 3, TPM2_NV_Increment).
use Rattle.std.specs.Prelude.{ℕ, ◌==◌, ◌&&◌, List, fold, max, Option, Some, None, if◌then◌else◌}
use Rattle.std.specs.Int.{from_be_bytes, w64}
use Rattle.std.specs.List.{filter_map}
use Rattle.tpol_base.specs.Attributes.{index_type, nt_counter}
use Rattle.tpol_name.specs.declared.entries.IndexEntry.{IndexEntry}
use Rattle.tpol_name.specs.Areas.{is_written}

-- the count that a counter's content is: eight bytes, big-endian
abbrev pub count_of : IndexEntry → ℕ
count_of entry = from_be_bytes w64 entry.content

-- the count of a counter that was written
abbrev pub written_count : IndexEntry → Option ℕ
written_count entry =
    if index_type entry.public.attributes == nt_counter && is_written entry.public.attributes then Some (count_of entry) else None

-- the greatest count of all written counters, and 0 where there is none
abbrev pub greatest_count : List IndexEntry → ℕ
greatest_count indices = fold max 0 (filter_map written_count indices)

-- the count before an increment: a counter that was never written goes on from the greatest of all
abbrev pub count_before : ℕ → IndexEntry → ℕ
count_before greatest entry = if is_written entry.public.attributes then count_of entry else greatest

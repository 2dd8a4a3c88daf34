-- Indices by handle.
use Rattle.std.specs.Prelude.{ℕ, ◌+◌, ◌==◌, List, map, find, Option, option_and_then, if◌then◌else◌}
use Rattle.std.specs.Int.{to_be_bytes, w64}
use Rattle.std.specs.Option.{option_map_or}
use Rattle.tpol_name.specs.declared.entries.IndexEntry.{IndexEntry}
use Rattle.tpm_nv.specs.Contents.{written_entry}
use Rattle.tpm_nv.specs.Counters.{count_before, greatest_count}
use Rattle.tpm_nv.specs.Rules.{increment_rule}

-- the index with this handle
abbrev pub index_of : ℕ → List IndexEntry → Option IndexEntry
index_of handle indices = find (λ entry. handle == entry.public.index) indices

-- what a rule says of the index with this handle
abbrev pub rule_of : (IndexEntry → Option ℕ) → ℕ → List IndexEntry → Option ℕ
rule_of rule handle indices = option_and_then rule (index_of handle indices)

-- the indices with this one changed
abbrev pub changed_at : ℕ → (IndexEntry → IndexEntry) → List IndexEntry → List IndexEntry
changed_at handle change indices = map (λ entry. if handle == entry.public.index then change entry else entry) indices

-- the indices after bytes were written to this one, from the offset on
abbrev pub written_at : ℕ → ℕ → List ℕ → List IndexEntry → List IndexEntry
written_at handle offset bytes indices = changed_at handle (written_entry offset bytes) indices

-- the rule of an increment among these indices
abbrev pub counter_rule : List IndexEntry → IndexEntry → Option ℕ
counter_rule indices entry = increment_rule entry (count_before (greatest_count indices) entry)

-- the count of this counter after an increment
abbrev pub count_after : ℕ → List IndexEntry → ℕ
count_after handle indices = option_map_or (λ entry. count_before (greatest_count indices) entry + 1) (index_of handle indices) 0

-- the indices after an increment of this one: its content is the new count, eight bytes
abbrev pub incremented_at : ℕ → List IndexEntry → List IndexEntry
incremented_at handle indices = written_at handle 0 (to_be_bytes w64 (count_after handle indices)) indices

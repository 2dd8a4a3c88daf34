-- The names of documents on the shelf.
use Rattle.std.specs.Prelude.{ℕ, ◌-◌, nat_eq, List, ◌++◌, codes, length, map, take, Option, Some, None, option_and_then, if◌then◌else◌}
use Rattle.std.specs.Cmp.Lexicographic.{slice_cmp}
use Rattle.std.specs.FinMap as names
use Rattle.std.specs.List.{ends_with}
use Rattle.std.specs.Ordering.{nat_cmp}
use Rattle.tpol_base.specs.PolicyName.{is_policy_name}

-- the name on the shelf of the policy of this name
abbrev pub file_name : List ℕ → List ℕ
file_name name = name ++ codes ".json"

-- what stands before `.json`
abbrev pub without_ending : List ℕ → Option (List ℕ)
without_ending file =
    if ends_with nat_eq file (codes ".json") then Some (take (length file - 5) file) else None

abbrev pub named_policy_only : List ℕ → Option (List ℕ)
named_policy_only name = if is_policy_name name then Some name else None

-- the name of the policy whose name on the shelf this is
abbrev pub policy_name : List ℕ → Option (List ℕ)
policy_name file = option_and_then named_policy_only (without_ending file)

-- a name as the key of a map that has nothing at its keys
abbrev pub as_key : List ℕ → List ℕ × Unit {0}
as_key name = (name, tt)

-- names in ascending byte order, each once: the keys of a map
unfoldable pub sorted_names : List (List ℕ) → List (List ℕ)
sorted_names listed = names.keys (names.from_entries {R = slice_cmp nat_cmp} (map as_key listed))

use Rattle.std.proofs.Common.{◌≡◌, map, take, filter_map, string_bytes}
use Rattle.tpol_store.specs.FileNames.{policy_name}
use Rattle.tpol_store.proofs.file_name.policy_names.Given as goal

-- the names of the policies that are listed so far
abbrev pub invariant-loop-file : goal.invariant-loop-file
invariant-loop-file l = map string_bytes l.names.items ≡ filter_map policy_name (take l.file-index l.listed)

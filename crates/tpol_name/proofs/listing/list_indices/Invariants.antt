use Rattle.std.proofs.Common.{◌≡◌, ◌++◌, map, take}
use Rattle.tpol_name.specs.Directories.{line_of_index}
use Rattle.tpol_name.proofs.listing.list_indices.Given as goal

abbrev pub invariant-loop-index : goal.invariant-loop-index
invariant-loop-index l = l.lines ≡ l.initial.lines ++ map line_of_index (take l.index-index l.indices)

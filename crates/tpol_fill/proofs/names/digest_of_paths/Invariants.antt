use Rattle.std.proofs.Common.{◌≡◌, map, take, drop}
use Rattle.std.specs.List.{flat_map}
use Rattle.std.specs.Option.{option_copied}
use Rattle.tpol_base.specs.Name.{name_bytes}
use Rattle.tpol_fill.specs.Entities.{or_empty, path_name}
use Rattle.tpol_fill.specs.Filling.{path_faults}
use Rattle.tpol_fill.specs.Outcome.{each_fault}
use Rattle.tpol_hash.specs.Messages.{Holds}
use Rattle.tpol_fill.proofs.names.digest_of_paths.Given as goal

abbrev pub invariant-loop-index : goal.invariant-loop-index
invariant-loop-index l = record {
  clear : each_fault (path_faults (option_copied l.sight) l.list) 0 l.paths ≡ each_fault (path_faults (option_copied l.sight) l.list) l.index (drop l.index l.paths);
  held : Holds l.hasher (flat_map name_bytes (map (λ path. or_empty (path_name path (option_copied l.sight))) (take l.index l.paths)));
}

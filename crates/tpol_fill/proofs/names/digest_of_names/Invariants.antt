use Rattle.std.proofs.Common.{take}
use Rattle.std.specs.List.{flat_map}
use Rattle.tpol_base.specs.Name.{name_bytes}
use Rattle.tpol_hash.specs.Messages.{Holds}
use Rattle.tpol_fill.proofs.names.digest_of_names.Given as goal

abbrev pub invariant-loop-name : goal.invariant-loop-name
invariant-loop-name l = Holds l.hasher (flat_map name_bytes (take l.name-index l.names))

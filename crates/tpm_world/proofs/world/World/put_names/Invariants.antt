use Rattle.std.proofs.Common.{ℕ, List, ◌++◌, take}
use Rattle.std.specs.List.{flat_map}
use Rattle.tpol_hash.specs.Messages.{Holds}
use Rattle.tpm_world.proofs.NameLemmas.{name_bytes_at}
use Rattle.tpm_world.proofs.world.World.put_names.Given as goal

-- the Names of the first handles stand behind the message
abbrev pub invariant-loop-handle : goal.invariant-loop-handle
invariant-loop-handle l =
    (m : List ℕ) → Holds l.fn.hasher m → Holds l.hasher (m ++ flat_map (name_bytes_at l.self) (take l.handle-index l.handle-items))

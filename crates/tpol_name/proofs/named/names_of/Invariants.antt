use Rattle.std.proofs.Common.{◌≡◌, map, take}
use Rattle.tpol_name.proofs.named.names_of.Given as goal

abbrev pub invariant-loop-entry : goal.invariant-loop-entry
invariant-loop-entry g l = l.names ≡ map g.T.HasName.name_of (take l.entry-index l.entries)

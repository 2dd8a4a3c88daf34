use Rattle.std.proofs.Common.{◌≡◌, ◌++◌, take}
use Rattle.tpol_wire.specs.Spellings.{spell_handles}
use Rattle.tpol_wire.proofs.writing.handles.Given as goal

abbrev pub invariant-loop-handle : goal.invariant-loop-handle
invariant-loop-handle l = l.out ≡ l.fn.out ++ spell_handles (take l.handle-index l.handle-items)

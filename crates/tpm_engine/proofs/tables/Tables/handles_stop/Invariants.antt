use Rattle.std.proofs.Common.{◌≡◌, ◌+◌, drop}
use Rattle.tpm_engine.specs.Stops as spec
use Rattle.tpm_engine.proofs.tables.Tables.handles_stop.Given as goal

abbrev pub invariant-loop-handle : goal.invariant-loop-handle
invariant-loop-handle l = record {
  position : l.n ≡ l.handle-index + 1;
  rest : spec.handles_from l.self 1 l.handle-items ≡ spec.handles_from l.self l.n (drop l.handle-index l.handle-items);
}

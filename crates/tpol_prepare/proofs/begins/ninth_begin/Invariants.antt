use Rattle.std.proofs.Common.{◌≡◌, ◌-◌, ◌≤◌, drop, slice_get}
use Rattle.tpol_prepare.specs.Begins.{begins_from, ninth_begin}
use Rattle.tpol_prepare.proofs.begins.ninth_begin.Given as goal

-- the ninth is among the events to come, behind those so far
abbrev pub invariant-loop-index : goal.invariant-loop-index
invariant-loop-index l = record {
  told : slice_get (begins_from l.index (drop l.index l.script)) (8 - l.begun) ≡ ninth_begin l.script;
  few : l.begun ≤ 8;
}

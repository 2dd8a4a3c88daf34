use Rattle.std.proofs.Common.{◌≡◌, map, take, drop}
use Rattle.tpol_base.specs.Pcr.{mask_of_pcrs}
use Rattle.tpol_fill.specs.Filling.{value_faults}
use Rattle.tpol_fill.specs.Outcome.{each_fault}
use Rattle.tpol_fill.proofs.pcrs.written_pcrs.Given as goal

abbrev pub invariant-loop-index : goal.invariant-loop-index
invariant-loop-index l = record {
  clear : each_fault (value_faults l.list) 0 l.values ≡ each_fault (value_faults l.list) l.index (drop l.index l.values);
  mask : l.mask ≡ mask_of_pcrs (map (λ v. v.0) (take l.index l.values));
  made : l.digests ≡ map (λ v. v.1) (take l.index l.values);
}

use Rattle.std.proofs.Common.{◌≡◌, map, take, drop}
use Rattle.std.specs.Option.{option_copied}
use Rattle.tpol_fill.specs.Filling.{current_faults, current_value, or_zero}
use Rattle.tpol_fill.specs.Outcome.{each_fault}
use Rattle.tpol_fill.proofs.pcrs.current_values.Given as goal

abbrev pub invariant-loop-index : goal.invariant-loop-index
invariant-loop-index l = record {
  clear : each_fault (current_faults (option_copied l.sight) l.list) 0 l.pcrs ≡ each_fault (current_faults (option_copied l.sight) l.list) l.index (drop l.index l.pcrs);
  made : l.values ≡ map (λ pcr. or_zero (current_value (option_copied l.sight) pcr)) (take l.index l.pcrs);
}

use Rattle.std.proofs.Common.{◌≡◌, ◌-◌, ◌<◌, ◌^◌, drop}
use Rattle.tpm_session.specs.Slots.{bits_of}
use Rattle.tpm_session.proofs.table.Table.occupied.Given as goal

abbrev pub invariant-loop-above : goal.invariant-loop-above
invariant-loop-above g l = (l.bits ≡ bits_of (drop (l.count - l.above) l.self)) × (l.bits < 2 ^ l.above)

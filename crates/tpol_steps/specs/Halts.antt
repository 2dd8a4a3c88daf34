-- Why a run ends where a call of the shelf gave no answer.
use Rattle.tpol_base.specs.declared.outside.Lapse.{Lapse}
use Rattle.tpol_base.specs.declared.outside.Lapse.TheVariants as lapses
use Rattle.tpol_steps.specs.declared.halt.Halt.{Halt}
use Rattle.tpol_steps.specs.declared.halt.Halt.TheVariants.{ShelfFailed, NoMemory}

abbrev pub halt_of_lapse : Lapse → Halt
halt_of_lapse lapses.Failed = ShelfFailed
halt_of_lapse lapses.NoMemory = NoMemory

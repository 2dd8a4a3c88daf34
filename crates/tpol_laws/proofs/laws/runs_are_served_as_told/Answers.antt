use Rattle.tpol_perform.proofs.PerformanceErased.{performed_erased}
use Rattle.tpol_laws.proofs.Begun.{begins-nowhere, begins-on}
use Rattle.tpol_laws.proofs.Told.{over-turns, served-exactly, served-on, served-with, stays-over, to-end-enough}
use Rattle.tpol_laws.proofs.laws.runs_are_served_as_told.Goals as goal

pub returns : goal.returns
returns c = record {
  begins_on = λ staged run position is sees chosen. begins-on staged run is sees position chosen;
  begins_nowhere = λ staged run is sees chosen. begins-nowhere staged run is sees chosen;
  served_on = λ staged run position is alone on enough. served-on staged run is alone position on enough;
  to_end = λ staged run before after is own. to-end-enough staged run is before after own;
  exactly = λ staged run is sees alone turns. served-exactly staged run is sees alone turns;
  served_with = λ staged run position is alone turns on. served-with staged run is alone turns position on;
  stays_over = λ staged run is nowhere. stays-over staged run is nowhere;
  tells_over = over-turns;
  as_printed = performed_erased;
}

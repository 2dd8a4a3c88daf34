use Rattle.std.proofs.Common.{◌≡◌, ◌≤◌, ◌+◌, ◌*◌, ◌^◌, ◌++◌, drop, length}
use Rattle.tpm_engine.specs.Views.{time_of}
use Rattle.tpol_who.specs.Who.{events_told}
use Rattle.tpol_who.proofs.survey.Survey.carry_out.Given as goal

-- what was told so far, with what is told of the events to come, is told of all of them; each event is at most 65,700
-- events of the machine, and at most 2^32 milliseconds
abbrev pub invariant-loop-event : goal.invariant-loop-event
invariant-loop-event l = record {
  told : l.self.lines ++ events_told l.scenario (drop l.event-index l.script) l.self.performance
      ≡ l.initial.self.lines ++ events_told l.scenario l.script l.initial.self.performance;
  setup : l.self.performance.setup ≡ l.initial.self.performance.setup;
  few : length l.self.performance.past ≤ 65700 * l.event-index;
  early : time_of l.self.performance.setup l.self.performance.past ≤ 2 ^ 62 + 2 ^ 32 * l.event-index;
}

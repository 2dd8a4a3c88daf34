use Rattle.std.proofs.Common.{◌≡◌, ◌≤◌, ◌+◌, ◌*◌, ◌^◌, drop, length}
use Rattle.tpm_engine.specs.Views.{time_of}
use Rattle.tpol_perform.specs.Script.{all_happened}
use Rattle.tpol_perform.proofs.performance.Performance.carry_out.Given as goal

-- the events so far, with those to come, are all of them; each is at most 65,700 events of the machine, and at
-- most 2^32 milliseconds
abbrev pub invariant-loop-event : goal.invariant-loop-event
invariant-loop-event l = record {
  told : all_happened l.scenario (drop l.event-index l.script) l.self ≡ all_happened l.scenario l.script l.initial.self;
  setup : l.self.setup ≡ l.initial.self.setup;
  few : length l.self.past ≤ 65700 * l.event-index;
  early : time_of l.self.setup l.self.past ≤ 2 ^ 62 + 2 ^ 32 * l.event-index;
}

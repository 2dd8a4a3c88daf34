use Rattle.std.proofs.Common.{◌≡◌, ◌≤◌, ◌+◌, ◌-◌, length}
use Rattle.tpm_engine.specs.Views.{time_of}
use Rattle.tpol_perform.specs.Turns.{turned_times}
use Rattle.tpol_perform.proofs.performance.Performance.turn_times.Given as goal

-- the turns so far, with those to come, are all of them
abbrev pub invariant-loop-turn : goal.invariant-loop-turn
invariant-loop-turn l = record {
  told : turned_times l.scenario l.run (l.times - l._turn) l.self ≡ turned_times l.scenario l.run l.times l.initial.self;
  few : length l.self.past ≤ length l.initial.self.past + l._turn;
  setup : l.self.setup ≡ l.initial.self.setup;
  timeless : time_of l.self.setup l.self.past ≡ time_of l.initial.self.setup l.initial.self.past;
}

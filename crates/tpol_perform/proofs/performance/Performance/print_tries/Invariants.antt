use Rattle.std.proofs.Common.{◌≡◌, ◌+◌, drop}
use Rattle.tpol_perform.specs.Blind.{with_tries}
use Rattle.tpol_perform.proofs.performance.Performance.print_tries.Given as goal

-- the lines so far, with those of the paths to come, are all of them
abbrev pub invariant-loop-index : goal.invariant-loop-index
invariant-loop-index l = record {
  told : with_tries (l.index + 1) (drop l.index l.paths) (drop l.index l.tries) l.self ≡ with_tries 1 l.paths l.tries l.initial.self;
  past : l.self.past ≡ l.initial.self.past;
  setup : l.self.setup ≡ l.initial.self.setup;
}

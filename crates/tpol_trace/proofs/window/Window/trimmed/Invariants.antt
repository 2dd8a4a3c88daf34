use Rattle.std.proofs.Common.{◌≡◌, ℕ, ◌<◌, ◌≤◌, Some, None}
use Rattle.std.specs.Prelude.{slice_index_or}
use Rattle.tpol_trace.specs.Windows.{IsIn}
use Rattle.tpol_trace.proofs.window.Window.trimmed.Given as goal

abbrev pub invariant-loop-k : goal.invariant-loop-k
invariant-loop-k l =
    ((j entry : ℕ) → slice_index_or l.entries j None ≡ Some entry → l.fn.self.from ≤ j → j < l.k → IsIn l.found j)
    × (l.found.to ≤ l.fn.self.to)

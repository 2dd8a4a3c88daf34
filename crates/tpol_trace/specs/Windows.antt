-- The places of a table between which all lies that is there.
use Rattle.std.specs.Prelude.{ℕ, ◌<◌, ◌≤◌}
use Rattle.tpol_trace.specs.declared.window.Window.{Window}

-- a place of the window
abbrev pub IsIn : Window → ℕ → Type 0
IsIn window k = (window.from ≤ k) × (k < window.to)

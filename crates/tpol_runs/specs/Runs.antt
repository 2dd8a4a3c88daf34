-- The runs of a script by their numbers.
use Rattle.std.specs.Prelude.{ℕ, Bool, ◌≡◌, ◌==◌, List, [], ◌∷◌, Option, Some, None, IfSome, find, position, if◌then◌else◌}
use Rattle.tpol_runs.specs.declared.numbered.Numbered.{Numbered}
use Rattle.tpol_runs.specs.Underway.{Underway}

abbrev pub has_number : ℕ → Numbered → Bool
has_number number entry = entry.number == number

abbrev pub run_in : Option Numbered → Option Underway
run_in None = None
run_in (Some entry) = entry.run

-- the run of a number, unless it is over; what was not begun is over
abbrev pub run_at : List Numbered → ℕ → Option Underway
run_at runs number = run_in (find (has_number number) runs)

-- the runs, with another state of the run of a number
abbrev pub with_run : List Numbered → ℕ → Option Underway → List Numbered
with_run [] number run = []
with_run (entry ∷ rest) number run =
    if has_number number entry then record { number = entry.number; run = run } ∷ rest else entry ∷ with_run rest number run

-- a number, where one is kept, with the place at which its run is found
abbrev pub IsPlaced : List Numbered → Option (ℕ × ℕ) → Type 0
IsPlaced runs kept = IfSome kept (λ kept. position (has_number kept.0) runs ≡ Some kept.1)

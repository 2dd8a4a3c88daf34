-- How far a scene was carried out.
use Rattle.std.specs.Prelude.{ℕ, ◌+◌, Bool, List, [], ◌∷◌, ◌++◌, length}
use Rattle.tpm_engine.specs.declared.event.Event.{Event}
use Rattle.tpm_engine.specs.declared.event.Event.TheVariants as events
use Rattle.tpol_lines.specs.Events.{presence_line, reset_line, time_line}
use Rattle.tpol_lines.specs.Lines.{line_of}
use Rattle.tpol_name.specs.declared.setup.Setup.{Setup}
use Rattle.tpol_runs.specs.declared.numbered.Numbered.{Numbered}
use Rattle.tpol_perform.specs.declared.tickets.Kept.{Kept}

-- what the machine started from, what happened to it, newest event first, the runs that were begun, the tickets that
-- are kept for later ones, and the lines that are printed
pub record PerformanceState : Type 0 where
  pub setup : Setup
  pub past : List Event
  pub runs : List Numbered
  pub kept : List Kept
  pub lines : List (List ℕ)

-- before the first event
abbrev pub start_of : Setup → PerformanceState
start_of setup = record { setup = setup; past = []; runs = []; kept = []; lines = [] }

-- the number of the next event
abbrev pub number_in : PerformanceState → ℕ
number_in p = length p.past + 1

-- one more line, and one more event
abbrev pub with_line : List ℕ → PerformanceState → PerformanceState
with_line text p = record p { lines = p.lines ++ line_of text ∷ [] }

abbrev pub with_event : Event → PerformanceState → PerformanceState
with_event event p = record p { past = event ∷ p.past }

-- ---- changes of the surroundings

abbrev pub time_passed : ℕ → PerformanceState → PerformanceState
time_passed ms p = with_line (time_line (number_in p) ms) (with_event (events.Time ms) p)

abbrev pub presence_set : Bool → PerformanceState → PerformanceState
presence_set on p = with_line (presence_line (number_in p) on) (with_event (events.Presence on) p)

abbrev pub was_reset : PerformanceState → PerformanceState
was_reset p = with_line (reset_line (number_in p)) (with_event events.Reset p)

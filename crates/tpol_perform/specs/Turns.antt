-- The turns of a run: each sends its next command, and hears the reply.
use Rattle.std.specs.Prelude.{ℕ, zero, suc, List, Option, Some, None}
use Rattle.tpm_engine.specs.Legal.{answer_to}
use Rattle.tpm_engine.specs.Views.{reset_count_of}
use Rattle.tpol_lines.specs.Runs.{end_line, over_line}
use Rattle.tpol_runs.specs.declared.after.After.{After}
use Rattle.tpol_runs.specs.declared.ended.Ended.{Ended}
use Rattle.tpol_runs.specs.declared.ended.Ended.TheVariants.{Blind, Sighted}
use Rattle.tpol_runs.specs.declared.sent.Sent.{Sent}
use Rattle.tpol_runs.specs.Courses.{end_told, goes_on, heard_by, next_of}
use Rattle.tpol_runs.specs.Runs.{run_at, with_run}
use Rattle.tpol_prepare.specs.declared.scenario.Scenario.{Scenario}
use Rattle.tpol_perform.specs.Blind.{with_blind_end}
use Rattle.tpol_perform.specs.CommandsTold.{commanded}
use Rattle.tpol_perform.specs.Performance.{PerformanceState, with_line}
use Rattle.tpol_perform.specs.Tickets.{with_kept}
use Rattle.tpol_prepare.specs.Scenario.{paths_named}

-- the next command of a run, unless it is over
abbrev pub sent_now : ℕ → PerformanceState → Option Sent
sent_now run p = next_of (run_at p.runs run)

-- the end of a run of this client, where it came to it: the tickets that it has earned are kept, and its lines
abbrev pub with_end : Scenario → ℕ → ℕ → Option Ended → PerformanceState → PerformanceState
with_end scenario client run None p = p
with_end scenario client run (Some (Sighted end earned)) p =
    with_line (end_line run end) (with_kept scenario.directory client earned p)
with_end scenario client run (Some (Blind policy end)) p = with_blind_end run (paths_named scenario policy) end p

-- what a run makes of a reply that comes now
abbrev pub heard_now : ℕ → List ℕ → PerformanceState → Option After
heard_now run reply p = heard_by (run_at p.runs run) (reset_count_of p.setup p.past) reply

-- a run of this client hears a reply
unfoldable pub replied : Scenario → ℕ → ℕ → List ℕ → PerformanceState → PerformanceState
replied scenario client run reply p =
    with_end scenario client run (end_told (heard_now run reply p))
    (record p { runs = with_run p.runs run (goes_on (heard_now run reply p)) })

-- a run sends a command, and hears the reply
unfoldable pub sent : Scenario → ℕ → Sent → PerformanceState → PerformanceState
sent scenario run command p =
    replied scenario command.client run (answer_to p.setup p.past command.locality command.buffer).reply
    (commanded scenario command.client command.locality command.buffer p)

-- one turn
abbrev pub turned_by : Scenario → ℕ → Option Sent → PerformanceState → PerformanceState
turned_by scenario run None p = with_line (over_line run) p
turned_by scenario run (Some command) p = sent scenario run command p

unfoldable pub turned : Scenario → ℕ → PerformanceState → PerformanceState
turned scenario run p = turned_by scenario run (sent_now run p) p

-- so many turns
unfoldable pub turned_times : Scenario → ℕ → ℕ → PerformanceState → PerformanceState
turned_times scenario run zero p = p
turned_times scenario run (suc n) p = turned_times scenario run n (turned scenario run p)

-- a turn, and what comes behind it; neither where the run is over
abbrev pub turned_and : (PerformanceState → PerformanceState) → Scenario → ℕ → Option Sent → PerformanceState → PerformanceState
turned_and rest scenario run None p = p
turned_and rest scenario run (Some command) p = rest (sent scenario run command p)

-- turns to the run's end, of so many at most
unfoldable pub turned_on : Scenario → ℕ → ℕ → PerformanceState → PerformanceState
turned_on scenario run zero p = p
turned_on scenario run (suc n) p = turned_and (turned_on scenario run n) scenario run (sent_now run p) p

-- the most commands of a run behind its first: on each of 64 paths two for each of 512 moves, the goal, and one more
unfoldable pub most_turns : ℕ
most_turns = 65664

-- all turns to the run's end, and one line of a run that was over before
abbrev pub turned_to_end_by : Scenario → ℕ → Option Sent → PerformanceState → PerformanceState
turned_to_end_by scenario run None p = with_line (over_line run) p
turned_to_end_by scenario run (Some command) p = turned_on scenario run most_turns (sent scenario run command p)

unfoldable pub turned_to_end : Scenario → ℕ → PerformanceState → PerformanceState
turned_to_end scenario run p = turned_to_end_by scenario run (sent_now run p) p

-- Blind runs at work on a path: what they keep, and the numbers of commands, which stay small.
use Rattle.std.specs.Prelude.{◌≡◌, ◌<◌, ◌≤◌, ◌+◌, ◌*◌, ℕ, All, List, length, Option}
use Rattle.tpol_driver.specs.declared.blind_end.Tried.{Tried}
use Rattle.tpol_driver.specs.declared.blind_plan.BlindPlan.{BlindPlan}
use Rattle.tpol_driver.specs.Underway.{sent_with}
use Rattle.tpol_fields.specs.declared.ticket.Ticket.{Ticket}

-- at most 64 paths of at most 512 moves each
pub record AreFewPaths (plan : BlindPlan) : Type 0 where
  pub paths : length plan.paths ≤ 64
  pub moves : All (λ path. length path.moves ≤ 512) plan.paths

-- a try of the path at a place: each path has its line
pub record IsAttempt (plan : BlindPlan) (place : ℕ) (tries : List Tried) : Type 0 where
  pub few : AreFewPaths plan
  pub within : place < length plan.paths
  pub whole : length tries ≡ length plan.paths

-- how great the number of the next command is at most: a path before has 1,026 commands at most, with the
-- PolicyRestart behind it
abbrev pub most_sent : ℕ → ℕ → Option Ticket → ℕ
most_sent place done ticket = 1026 * place + 2 * done + sent_with ticket

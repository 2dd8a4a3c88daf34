-- Runs that are to begin.
use Rattle.std.specs.Prelude.{ℕ, List, [], ◌∷◌, ◌++◌, codes, Option}
use Rattle.std.specs.Int.{to_be_bytes, w32}
use Rattle.tpol_base.specs.declared.digest.Digest32.{Digest32}
use Rattle.tpol_goal.specs.declared.goal.Goal.{Goal}
use Rattle.tpol_goal.specs.declared.grants.Grants.{Grants}
use Rattle.tpol_hash.specs.Sha256.{sha256_digest}
use Rattle.tpol_runs.specs.Underway.{Underway}
use Rattle.tpol_perform.specs.declared.new_run.NewRun.{NewRun}
use Rattle.tpol_perform.specs.Performance.{PerformanceState}
use Rattle.tpol_prepare.specs.Scenario.{grants_of}

-- the run that a client begins, with what it may use
abbrev pub new_run : List (ℕ × Grants) → ℕ → ℕ → ℕ → Goal → NewRun
new_run clients number client locality goal =
    record { number = number; client = client; locality = locality; goal = goal; grants = grants_of clients client }

-- the seed of a run's nonces: H(seed || "CALL" || run in four bytes)
abbrev pub run_seed : Digest32 → ℕ → Digest32
run_seed seed number = sha256_digest (seed.bytes ++ codes "CALL" ++ to_be_bytes w32 number)

-- one more run
abbrev pub with_new_run : ℕ → Option Underway → PerformanceState → PerformanceState
with_new_run number run p = record p { runs = p.runs ++ record { number = number; run = run } ∷ [] }

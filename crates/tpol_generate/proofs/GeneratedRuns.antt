-- The run of `gen`, on its machine.
use Rattle.std.proofs.Common.{◌≡◌, ◌∙◌, ap, ℕ, codes}
use Rattle.tpol_base.specs.declared.digest.Digest32.{Digest32}
use Rattle.tpol_digest.specs.Digest.{policy_digest}
use Rattle.tpol_name.specs.declared.setup.Setup.{Setup}
use Rattle.tpol_generate.specs.FirstRun.{performed_run}
use Rattle.tpol_generate.specs.Generate.{generated_performance, generated_run, generated_scenario, generated_setup}
use Rattle.tpol_perform.specs.Performance.{PerformanceState, start_of}
use Rattle.tpol_tree.specs.declared.closed.Closed.{Closed}

abbrev run_of : ℕ → Closed → Digest32 → PerformanceState
run_of order closed digest = performed_run (generated_scenario (generated_setup order digest) closed) (codes "gen") generated_run (start_of (generated_setup order digest))

abbrev pub run_on : Closed → Setup → PerformanceState
run_on closed setup = performed_run (generated_scenario setup closed) (codes "gen") generated_run (start_of setup)

-- on the machine with its digest, it is the one that is told
pub run_on_setup : (order : ℕ) (closed : Closed) (digest : Digest32) (setup : Setup) → digest ≡ policy_digest closed → setup ≡ generated_setup order digest
    → run_on closed setup ≡ generated_performance order closed
unfolding generated_performance
run_on_setup order closed digest setup of_digest of_setup = ap (run_on closed) of_setup ∙ ap (run_of order closed) of_digest

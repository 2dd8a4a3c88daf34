-- What `gen` tells of its policy, whichever memory it lies in.
use Rattle.std.proofs.Common.{◌≡◌, ◌∙◌, ap, refl, ℕ, [], ◌∷◌, ◌++◌, codes, length, take}
use Rattle.tpol_base.specs.declared.digest.Digest32.{Digest32}
use Rattle.tpol_digest.proofs.Erasures.{paths_ignore_boxes}
use Rattle.tpol_digest.specs.Digest.{policy_digest}
use Rattle.tpol_digest.specs.Paths.{paths_of}
use Rattle.tpol_lines.specs.Generated.{command_count_line, generated_line, path_count_line}
use Rattle.tpol_lines.specs.Lines.{line_of}
use Rattle.tpol_name.specs.declared.setup.Setup.{Setup}
use Rattle.tpol_steps.specs.declared.answer.Answer.{Answer}
use Rattle.tpol_steps.specs.declared.answer.Verdict.TheVariants.{Done}
use Rattle.tpol_prepare.specs.declared.scenario.Scenario.{Scenario}
use Rattle.tpol_perform.specs.Begin.{run_begun}
use Rattle.tpol_generate.specs.Generate.{generated_answer, generated_performance, generated_run, generated_scenario, generated_setup, last_two}
use Rattle.tpol_steps.specs.Lines.{digest_line}
use Rattle.tpol_perform.specs.Performance.{PerformanceState, start_of}
use Rattle.tpol_prepare.specs.Scenario.{erased_scenario}
use Rattle.tpol_perform.specs.Turns.{turned_to_end}
use Rattle.tpol_steps.proofs.FilledErased.{policy_digest_erased}
use Rattle.tpol_perform.proofs.PerformanceErased.{run_erased}
use Rattle.tpol_tree.specs.ClosedErased.{erased}
use Rattle.tpol_tree.specs.declared.closed.Closed.{Closed}

scenario_erased : (setup : Setup) (closed : Closed) → generated_scenario setup (erased closed) ≡ erased_scenario (generated_scenario setup closed)
unfolding generated_scenario
scenario_erased setup closed = refl

-- the run of a policy on a machine
abbrev run_by : Setup → Scenario → PerformanceState
run_by setup scenario = turned_to_end scenario 1 (run_begun scenario (codes "gen") generated_run (start_of setup))

run_by_erased : (setup : Setup) (closed : Closed) → run_by setup (generated_scenario setup (erased closed)) ≡ run_by setup (generated_scenario setup closed)
run_by_erased setup closed =
    ap (run_by setup) (scenario_erased setup closed)
    ∙ run_erased (generated_scenario setup closed) (codes "gen") generated_run 1 (start_of setup)

abbrev run_of : ℕ → Closed → Digest32 → PerformanceState
run_of order closed digest = run_by (generated_setup order digest) (generated_scenario (generated_setup order digest) closed)

performance_erased : (order : ℕ) (closed : Closed) → generated_performance order (erased closed) ≡ generated_performance order closed
unfolding generated_performance
performance_erased order closed =
    ap (run_of order (erased closed)) (policy_digest_erased closed) ∙ run_by_erased (generated_setup order (policy_digest closed)) closed

-- what is printed, by the number of paths, the digest and the run
abbrev answer_with : ℕ → ℕ → ℕ → Digest32 → PerformanceState → Answer
answer_with ors order count digest p = record {
  lines = line_of (generated_line ors order) ∷ line_of (path_count_line count) ∷ line_of (digest_line digest)
      ∷ take 1 p.lines ++ line_of (command_count_line (length p.past)) ∷ last_two p.lines;
  verdict = Done;
}

pub generated_answer_erased : (ors order : ℕ) (closed : Closed) → generated_answer ors order (erased closed) ≡ generated_answer ors order closed
unfolding generated_answer
generated_answer_erased ors order closed =
    ap (λ (count : ℕ). answer_with ors order count (policy_digest (erased closed)) (generated_performance order (erased closed))) (ap length (paths_ignore_boxes closed []))
    ∙ (ap (λ (digest : Digest32). answer_with ors order (length (paths_of closed [])) digest (generated_performance order (erased closed))) (policy_digest_erased closed)
    ∙ ap (answer_with ors order (length (paths_of closed [])) (policy_digest closed)) (performance_erased order closed))

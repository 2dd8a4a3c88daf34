-- What is told of a scene, whichever memory its policies lie in.
use Rattle.std.proofs.Common.{◌≡◌, ◌∙◌, ap, refl, ℕ, List, [], ◌∷◌, ◌++◌}
use Rattle.tpm_engine.specs.Sights.{sight_after}
use Rattle.tpol_lines.specs.Lines.{line_of}
use Rattle.tpol_perform.specs.declared.new_run.NewRun.{NewRun}
use Rattle.tpol_perform.specs.NewRuns.{new_run}
use Rattle.tpol_perform.specs.Performance.{PerformanceState, start_of}
use Rattle.tpol_perform.specs.Script.{happened}
use Rattle.tpol_perform.proofs.PerformanceErased.{happened_erased, paths_erased}
use Rattle.tpol_prepare.specs.declared.scenario.Scenario.{Scenario}
use Rattle.tpol_prepare.specs.declared.scenario.StagedScene.{StagedScene}
use Rattle.tpol_prepare.specs.Scenario.{erased_scenario, erased_staged}
use Rattle.tpol_scene.specs.declared.script.ScriptEvent.{ScriptEvent}
use Rattle.tpol_scene.specs.declared.script.ScriptEvent.TheVariants.{Command, Begin, Turn, Time, Presence, Reset}
use Rattle.tpol_steps.specs.declared.answer.Verdict.TheVariants.{Done}
use Rattle.tpol_tree.specs.declared.path.Path.{Path}
use Rattle.tpol_who.specs.Lines.{begin_line, paths_told}
use Rattle.tpol_who.specs.Who.{begin_told, event_told, events_told, scene_told, who_answer}

begin_erased : (scenario : Scenario) (policy : List ℕ) (run : NewRun) (p : PerformanceState) → begin_told (erased_scenario scenario) policy run p ≡ begin_told scenario policy run p
unfolding begin_told
begin_erased scenario policy run p =
    ap (λ (paths : List Path). line_of (begin_line run policy) ∷ paths_told (sight_after p.setup p.past) run 1 paths) (paths_erased scenario policy)

event_erased : (scenario : Scenario) (event : ScriptEvent) (p : PerformanceState) → event_told (erased_scenario scenario) event p ≡ event_told scenario event p
event_erased scenario (Command client locality buffer) p = refl
event_erased scenario (Begin run client locality policy place goal) p = begin_erased scenario policy (new_run scenario.clients run client locality goal) p
event_erased scenario (Turn run times) p = refl
event_erased scenario (Time ms) p = refl
event_erased scenario (Presence on) p = refl
event_erased scenario Reset p = refl

events_erased : (scenario : Scenario) (script : List ScriptEvent) (p : PerformanceState) → events_told (erased_scenario scenario) script p ≡ events_told scenario script p
unfolding events_told
events_erased scenario [] p = refl
events_erased scenario (event ∷ rest) p =
    let other = erased_scenario scenario in
    let told = event_told scenario event p in
    ap (λ l. l ++ events_told other rest (happened other event p)) (event_erased scenario event p)
    ∙ ap (λ (q : PerformanceState). told ++ events_told other rest q) (happened_erased scenario event p)
    ∙ ap (λ l. told ++ l) (events_erased scenario rest (happened scenario event p))

pub answer_erased : (staged : StagedScene) → who_answer (erased_staged staged) ≡ who_answer staged
unfolding scene_told
answer_erased staged =
    ap (λ (l : List (List ℕ)). record { lines = l; verdict = Done }) (events_erased staged.scenario staged.script (start_of staged.setup))

use Rattle.std.proofs.Common.{◌≡◌, codes, subst, sym}
use Rattle.std.specs.Prelude.{IfOk}
use Rattle.tpol_generate.specs.FirstRun.{performed_run}
use Rattle.tpol_generate.specs.Generate.{generated_run}
use Rattle.tpol_perform.specs.Performance.{start_of}
use Rattle.tpol_prepare.specs.declared.scenario.Scenario.{Scenario}
use Rattle.tpol_prepare.specs.Scenario.{IsScenarioOf}
use Rattle.tpol_generate.proofs.GeneratedScenarios.{generated_is_scenario}
use Rattle.tpol_generate.proofs.generate.performance_from.Goals as goal

pub perform_on-performance-requires-clause-scenario : goal.perform_on-performance-requires-clause-scenario
perform_on-performance-requires-clause-scenario c =
    subst (λ (scenario : Scenario). IsScenarioOf c.args.setup scenario) (sym c.in-Ok.ensures)
    (generated_is_scenario c.args.setup c.args.setup c.args.document.closed c.requires.form c.requires.within)

pub returns-in-Ok-clause-told : goal.returns-in-Ok-clause-told
returns-in-Ok-clause-told c =
    subst (λ (scenario : Scenario). IfOk c.perform_on-performance.result (λ performance. performance ≡ performed_run scenario (codes "gen") generated_run (start_of c.args.setup)))
    c.in-Ok.ensures c.perform_on-performance.ensures.told

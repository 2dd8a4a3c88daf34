use Rattle.std.proofs.Common.{◌≤◌, ◌^◌, subst, sym}
use Rattle.tpm_engine.specs.Views.{time_of}
use Rattle.tpol_perform.specs.Performance.{PerformanceState}
use Rattle.tpol_who.proofs.survey.tell_script.Goals as goal

pub carry_out-requires-clause-early : goal.carry_out-requires-clause-early
unfolding time_of
carry_out-requires-clause-early c =
    subst (λ (p : PerformanceState). time_of p.setup p.past ≤ 2 ^ 62) (sym c.in_ok-survey.ensures.performance) c.requires.setup.time

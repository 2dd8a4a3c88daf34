use Rattle.std.proofs.Common.{◌∙◌, IfSome, List, ap, subst, sym}
use Rattle.tpm_engine.specs.Legal.{answer_to}
use Rattle.tpm_engine.specs.Views.{reset_count_of}
use Rattle.tpol_name.specs.declared.setup.Setup.{Setup}
use Rattle.tpol_prepare.specs.declared.entities.CompiledEntity.{CompiledEntity}
use Rattle.tpol_prepare.specs.Scenario.{HavePolicies}
use Rattle.tpol_perform.specs.Meeting.{MeetsPolicy}
use Rattle.tpol_perform.specs.Performance.{PerformanceState}
use Rattle.tpol_perform.proofs.Timeless.{command_resets_nothing}
use Rattle.tpol_perform.proofs.OpenedMeets.{any_opened_meets}
use Rattle.tpol_perform.proofs.performance.Performance.execute.Goals as goal

pub returns-in-Ok-clause-meets : goal.returns-in-Ok-clause-meets
returns-in-Ok-clause-meets c =
    let opened = c.in_ok-done.done.opened in
    subst (λ (p : PerformanceState). (entities : List CompiledEntity) → HavePolicies p.setup entities → IfSome opened (MeetsPolicy entities)) c.self.view_is
    (λ entities has. any_opened_meets c.self.inside.machine.setup entities opened has c.in_ok-done.ensures.sound c.in_ok-done.ensures.policy)

pub invariant_of-self-2 : goal.invariant_of-self-2
invariant_of-self-2 c =
    let before = c.self.inside.machine in
    let after = c.execute.new.self in
    let buffer = c.args.buffer.now in
    let answered = answer_to before.setup before.events c.args.locality buffer in
    c.self.invariant
    ∙ sym (ap (λ (s : Setup). reset_count_of s after.events) c.execute.ensures.setup
    ∙ ap (reset_count_of before.setup) c.in_ok-done.ensures.event
    ∙ command_resets_nothing before.setup before.events c.args.client c.args.locality buffer answered)

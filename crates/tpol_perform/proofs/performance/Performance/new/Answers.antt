use Rattle.std.proofs.Common.{ap, sym, ◌∙◌}
use Rattle.tpm_engine.specs.Views.{reset_count_of}
use Rattle.tpol_name.specs.declared.setup.Setup.{Setup}
use Rattle.tpol_perform.proofs.performance.Performance.new.Goals as goal

pub invariant_of-result : goal.invariant_of-result
unfolding reset_count_of
invariant_of-result c =
    let machine = c.in_ok-machine.machine in
    sym (ap (λ (s : Setup). reset_count_of s machine.events) c.in_ok-machine.ensures.setup ∙ ap (reset_count_of c.args.setup) c.in_ok-machine.ensures.events)

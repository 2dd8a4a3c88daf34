use Rattle.std.proofs.Common.{ap, ◌∙◌}
use Rattle.tpm_bindings.specs.declared.bindings.Bindings.{Bindings}
use Rattle.tpm_bindings.specs.Facts.{deadlines_of, is_before}
use Rattle.tpm_bindings.proofs.Merging.{before-least}
use Rattle.tpm_bindings.proofs.bindings.Bindings.is_in_time.Goals as goal

pub returns : goal.returns
returns c facts h =
    c.is_before.ensures.before
    ∙ (ap (λ (b : Bindings). is_before c.args.time b.deadline) h ∙ before-least c.args.time (deadlines_of facts))

use Rattle.std.proofs.Common.{ap, sym, ◌∙◌}
use Rattle.tpm_session.specs.Slots.{bits_of}
use Rattle.tpm_session.proofs.Bits.{bits-plain}
use Rattle.tpm_context.specs.Saved.{saved_state}
use Rattle.tpm_context.proofs.saved.Saved.slots.Goals as goal

pub returns-clause-value : goal.returns-clause-value
returns-clause-value c =
    c.occupied.ensures.value ∙ (sym (bits-plain saved_state c.self.inside.table) ∙ ap bits_of c.self.view_is)

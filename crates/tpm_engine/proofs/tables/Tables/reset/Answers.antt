use Rattle.std.proofs.Common.{ap, is_some, ◌∙◌}
use Rattle.tpm_context.specs.Saved.{is_saved}
use Rattle.tpm_session.specs.Slots.{slot_count}
use Rattle.tpm_engine.proofs.Slotted.{content-empty}
use Rattle.tpm_engine.proofs.tables.Tables.reset.Goals as goal

-- src/tables.rt
pub invariant_of-self : goal.invariant_of-self
invariant_of-self c handle live = ap (λ slots. is_saved slots handle) c.clear-2.ensures ∙ ap is_some (content-empty slot_count handle)

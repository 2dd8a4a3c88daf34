use Rattle.std.proofs.Common.{◌∷◌, ap, ◌∙◌}
use Rattle.tpm_engine.specs.declared.event.Event.TheVariants as events
use Rattle.tpm_world.specs.Surroundings.{counted_on}
use Rattle.tpol_perform.proofs.Timeless.{counts_on}
use Rattle.tpol_perform.proofs.performance.Performance.reset.Goals as goal

pub invariant_of-self-in_err-line : goal.invariant_of-self-in_err-line
invariant_of-self-in_err-line c =
    let before = c.self.inside.machine in
    let after = c.reset-event.new.self in
    c.counted_on-self-inside.ensures ∙ ap counted_on c.self.invariant
    ∙ counts_on events.Reset before.setup after.setup before.events after.events (c.reset-event.ensures.setup ∙ c.reserve.ensures.setup)
    (c.reset-event.ensures.event ∙ ap (λ past. events.Reset ∷ past) c.reserve.ensures.events)

pub invariant_of-self-2 : goal.invariant_of-self-2
invariant_of-self-2 c =
    let before = c.self.inside.machine in
    let after = c.reset-event.new.self in
    c.counted_on-self-inside.ensures ∙ ap counted_on c.self.invariant
    ∙ counts_on events.Reset before.setup after.setup before.events after.events (c.reset-event.ensures.setup ∙ c.reserve.ensures.setup)
    (c.reset-event.ensures.event ∙ ap (λ past. events.Reset ∷ past) c.reserve.ensures.events)

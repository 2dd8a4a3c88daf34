use Rattle.std.proofs.Common.{◌∷◌, ap, ◌∙◌}
use Rattle.tpm_engine.specs.declared.event.Event.TheVariants as events
use Rattle.tpol_perform.proofs.Timeless.{counts_on}
use Rattle.tpol_perform.proofs.performance.Performance.set_presence.Goals as goal

pub invariant_of-self-in_err-line : goal.invariant_of-self-in_err-line
invariant_of-self-in_err-line c =
    let before = c.self.inside.machine in
    let after = c.set_presence-event.new.self in
    let event = events.Presence c.args.on in
    c.self.invariant
    ∙ counts_on event before.setup after.setup before.events after.events (c.set_presence-event.ensures.setup ∙ c.reserve.ensures.setup)
    (c.set_presence-event.ensures.event ∙ ap (λ past. event ∷ past) c.reserve.ensures.events)

pub invariant_of-self-2 : goal.invariant_of-self-2
invariant_of-self-2 c =
    let before = c.self.inside.machine in
    let after = c.set_presence-event.new.self in
    let event = events.Presence c.args.on in
    c.self.invariant
    ∙ counts_on event before.setup after.setup before.events after.events (c.set_presence-event.ensures.setup ∙ c.reserve.ensures.setup)
    (c.set_presence-event.ensures.event ∙ ap (λ past. event ∷ past) c.reserve.ensures.events)

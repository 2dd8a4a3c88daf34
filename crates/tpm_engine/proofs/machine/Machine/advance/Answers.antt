use Rattle.std.proofs.Common.{◌≡◌, ◌+◌, ◌≤◌, ◌^◌, ap, sym, subst, ◌∙◌}
use Rattle.tpm_engine.specs.Views.{time_of}
use Rattle.tpm_engine.proofs.Machines.{machine-passed, machine-time}
use Rattle.tpm_engine.proofs.machine.Machine.advance.Goals as goal

pub advance-requires : goal.advance-requires
advance-requires c =
    let time : c.self.inside.tables.world.time ≡ time_of c.args.self.now.setup c.args.self.now.events =
    machine-time c.self.inside.setup c.self.inside.journal.events c.self.inside.tables c.self.invariant ∙ ap (λ m. time_of m.setup m.events) c.self.view_is in
    record { early = subst (λ t. t + c.args.ms ≤ 2 ^ 63) (sym time) c.requires.early }

pub invariant_of-self : goal.invariant_of-self
invariant_of-self c =
    machine-passed c.self.inside.setup c.self.inside.journal.events c.self.inside.tables c.self.invariant c.args.ms c.push_change.new.self.events c.advance.new.self
    c.advance.ensures.tables c.push_change.ensures.events

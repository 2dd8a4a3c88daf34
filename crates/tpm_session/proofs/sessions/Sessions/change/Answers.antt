use Rattle.std.proofs.Common.{sym, ◌∙◌}
use Rattle.std.specs.Fn.{FnOnceReturnsAtMut}
use Rattle.tpm_session.proofs.Changed.{changed-table, session-found}
use Rattle.tpm_session.proofs.sessions.Sessions.change.Goals as goal

pub change-requires : goal.change-requires
change-requires g c = record { takes = λ session found. c.requires.takes session (sym (session-found c.self.inside.table c.args.self.now c.args.handle c.self.invariant c.self.view_is) ∙ found) }

pub invariant_of-self : goal.invariant_of-self
invariant_of-self g c =
    (changed-table c.self.inside.table c.change.new.self c.args.self.now c.args.handle (λ before after. FnOnceReturnsAtMut g.F.FnOnce c.args.change before tt after)
    c.self.invariant c.self.view_is c.requires.stays c.change.ensures.slots).0

pub returns : goal.returns
returns g c =
    record {
      slots = (changed-table c.self.inside.table c.change.new.self c.args.self.now c.args.handle (λ before after. FnOnceReturnsAtMut g.F.FnOnce c.args.change before tt after)
          c.self.invariant c.self.view_is c.requires.stays c.change.ensures.slots).1;
    }

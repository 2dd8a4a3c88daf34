use Rattle.std.proofs.Common.{Some, ap, sym, subst, ◌∙◌}
use Rattle.tpm_session.specs.Slots.{with_state}
use Rattle.tpm_context.specs.Saved.{AreApart}
use Rattle.tpm_context.proofs.Apart.{apart-loaded, found-saved}
use Rattle.tpm_context.proofs.saved.Saved.load.Goals as goal

pub returns-clause-apart : goal.returns-clause-apart
returns-clause-apart c =
    let live = c.args.sessions.now in
    let saved = c.in-Some.saved in
    let handle = (found-saved c.args.self.now c.args.handle saved c.in-Some.ensures.saved).0 in
    let loaded = c.put_back.ensures ∙ ap (λ h. with_state live h (Some saved.session.state)) handle in
    subst (λ l. AreApart l c.take_out.new.self) (sym loaded)
    (subst (λ s. AreApart (with_state live c.args.handle (Some saved.session.state)) s) (sym c.in-Some.ensures.slots)
    (apart-loaded live c.args.self.now c.args.handle (Some saved.session.state) c.requires))

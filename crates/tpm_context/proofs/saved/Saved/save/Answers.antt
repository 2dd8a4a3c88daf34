use Rattle.std.proofs.Common.{None, Some, ap, sym, subst, ◌∙◌}
use Rattle.std.specs.Option.{option_map}
use Rattle.tpm_bindings.specs.State.{SessionState}
use Rattle.tpm_session.specs.Slots.{with_content, with_state}
use Rattle.tpm_session.proofs.Slots.{found-state}
use Rattle.tpm_context.specs.Saved.{SavedState, AreApart}
use Rattle.tpm_context.proofs.Apart.{apart-saved}
use Rattle.tpm_context.proofs.saved.Saved.save.Goals as goal

pub returns-clause-saved : goal.returns-clause-saved
returns-clause-saved c done =
    let session = c.in-Some.session in
    let content : SessionState → SavedState = λ state. record { sequence = c.args.sequence; state = state } in
    let found = found-state c.args.sessions.now c.args.handle session c.in-Some.ensures.session in
    c.put.ensures
    ∙ (ap (λ h. with_content c.args.self.now h (Some (content session.state))) found.0
    ∙ ap (λ state. with_content c.args.self.now c.args.handle (option_map content state)) (sym found.1))

pub returns-clause-apart : goal.returns-clause-apart
returns-clause-apart c =
    let live = c.args.sessions.now in
    let session = c.in-Some.session in
    let content : SavedState = record { sequence = c.args.sequence; state = session.state } in
    let handle = (found-state live c.args.handle session c.in-Some.ensures.session).0 in
    let saved = c.put.ensures ∙ ap (λ h. with_content c.args.self.now h (Some content)) handle in
    subst (λ l. AreApart l c.put.new.self) (sym c.in-Some.ensures.slots)
    (subst (λ s. AreApart (with_state live c.args.handle None) s) (sym saved)
    (apart-saved live c.args.self.now c.args.handle (Some content) c.requires))

use Rattle.std.proofs.Common.{None, ap, ◌∙◌, refl}
use Rattle.std.specs.Option.{option_map}
use Rattle.tpm_session.specs.Kept.{state_of_view}
use Rattle.tpm_session.specs.Slots.{session_of, content_at, with_content}
use Rattle.tpm_session.specs.Numbered.{plain}
use Rattle.tpm_session.proofs.Numbered.{content-numbered, with-numbered, numbered-is, numbered-plain}
use Rattle.tpm_session.proofs.Slots.{found-slot}
use Rattle.tpm_session.proofs.sessions.Sessions.take_out.Goals as goal

pub invariant_of-self : goal.invariant_of-self
invariant_of-self c =
    let table = c.self.inside.table in
    numbered-is session_of state_of_view (λ handle a. refl) _ (with_content (plain state_of_view table) c.args.handle None)
    (c.take.ensures.after ∙ with-numbered session_of state_of_view (λ handle a. refl) table c.args.handle None c.self.invariant)

pub returns-clause-session : goal.returns-clause-session
returns-clause-session c =
    c.take.ensures.before
    ∙ (content-numbered session_of state_of_view c.self.inside.table c.args.handle c.self.invariant
    ∙ ap (λ s. option_map (session_of c.args.handle) (content_at s c.args.handle)) c.self.view_is)

pub returns-clause-slot : goal.returns-clause-slot
returns-clause-slot c =
    let found = c.take.ensures.before
    ∙ content-numbered session_of state_of_view c.self.inside.table c.args.handle c.self.invariant in
    found-slot (plain state_of_view c.self.inside.table) c.args.handle c.take.result found c.take.ensures.slot

pub returns-clause-slots : goal.returns-clause-slots
returns-clause-slots c =
    let table = c.self.inside.table in
    numbered-plain session_of state_of_view (λ handle a. refl) _ (with_content (plain state_of_view table) c.args.handle None)
    (c.take.ensures.after ∙ with-numbered session_of state_of_view (λ handle a. refl) table c.args.handle None c.self.invariant)
    ∙ ap (λ s. with_content s c.args.handle None) c.self.view_is

use Rattle.std.proofs.Common.{Some, ap, ◌∙◌, refl}
use Rattle.tpm_session.specs.Kept.{state_of_view}
use Rattle.tpm_session.specs.Slots.{session_of, with_content}
use Rattle.tpm_session.specs.Numbered.{plain}
use Rattle.tpm_session.proofs.Numbered.{with-numbered, numbered-is, numbered-plain}
use Rattle.tpm_session.proofs.sessions.Sessions.put_back.Goals as goal

pub invariant_of-self : goal.invariant_of-self
invariant_of-self c =
    let table = c.self.inside.table in
    let session = c.args.session in
    let made = c.put.ensures.after
    ∙ (ap (λ h. with_content table h (Some session)) c.handle.ensures
    ∙ with-numbered session_of state_of_view (λ handle a. refl) table session.handle (Some session.state) c.self.invariant) in
    numbered-is session_of state_of_view (λ handle a. refl) _ (with_content (plain state_of_view table) session.handle (Some session.state)) made

pub returns : goal.returns
returns c =
    let table = c.self.inside.table in
    let session = c.args.session in
    let made = c.put.ensures.after
    ∙ (ap (λ h. with_content table h (Some session)) c.handle.ensures
    ∙ with-numbered session_of state_of_view (λ handle a. refl) table session.handle (Some session.state) c.self.invariant) in
    numbered-plain session_of state_of_view (λ handle a. refl) _ (with_content (plain state_of_view table) session.handle (Some session.state)) made
    ∙ ap (λ s. with_content s session.handle (Some session.state)) c.self.view_is

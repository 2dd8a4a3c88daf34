use Rattle.std.proofs.Common.{Some, ap, ◌∙◌, refl}
use Rattle.tpm_session.specs.Slots.{with_content}
use Rattle.tpm_session.specs.Numbered.{plain}
use Rattle.tpm_session.proofs.Numbered.{with-numbered, numbered-is, numbered-plain}
use Rattle.tpm_context.specs.Saved.{saved_of, saved_state}
use Rattle.tpm_context.proofs.saved.Saved.put.Goals as goal

pub invariant_of-self : goal.invariant_of-self
invariant_of-self c =
    let table = c.self.inside.table in
    let saved = c.args.saved in
    let handle = saved.session.handle in
    let made = c.replace.ensures.after
    ∙ (ap (λ h. with_content table h (Some saved)) c.handle.ensures
    ∙ with-numbered saved_of saved_state (λ handle a. refl) table handle (Some (saved_state saved)) c.self.invariant) in
    numbered-is saved_of saved_state (λ handle a. refl) _ (with_content (plain saved_state table) handle (Some (saved_state saved))) made

pub returns : goal.returns
returns c =
    let table = c.self.inside.table in
    let saved = c.args.saved in
    let handle = saved.session.handle in
    let made = c.replace.ensures.after
    ∙ (ap (λ h. with_content table h (Some saved)) c.handle.ensures
    ∙ with-numbered saved_of saved_state (λ handle a. refl) table handle (Some (saved_state saved)) c.self.invariant) in
    numbered-plain saved_of saved_state (λ handle a. refl) _ (with_content (plain saved_state table) handle (Some (saved_state saved))) made
    ∙ ap (λ s. with_content s handle (Some (saved_state saved))) c.self.view_is

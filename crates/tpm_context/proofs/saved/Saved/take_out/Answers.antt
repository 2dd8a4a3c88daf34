use Rattle.std.proofs.Common.{None, ap, ◌∙◌, refl}
use Rattle.std.specs.Option.{option_map}
use Rattle.tpm_session.specs.Slots.{content_at, with_content}
use Rattle.tpm_session.specs.Numbered.{plain}
use Rattle.tpm_session.proofs.Numbered.{content-numbered, with-numbered, numbered-is, numbered-plain}
use Rattle.tpm_context.specs.Saved.{saved_of, saved_state}
use Rattle.tpm_context.proofs.saved.Saved.take_out.Goals as goal

pub invariant_of-self : goal.invariant_of-self
invariant_of-self c =
    let table = c.self.inside.table in
    numbered-is saved_of saved_state (λ handle a. refl) _ (with_content (plain saved_state table) c.args.handle None)
    (c.replace.ensures.after ∙ with-numbered saved_of saved_state (λ handle a. refl) table c.args.handle None c.self.invariant)

pub returns-clause-saved : goal.returns-clause-saved
returns-clause-saved c =
    c.replace.ensures.before
    ∙ (content-numbered saved_of saved_state c.self.inside.table c.args.handle c.self.invariant
    ∙ ap (λ s. option_map (saved_of c.args.handle) (content_at s c.args.handle)) c.self.view_is)

pub returns-clause-slots : goal.returns-clause-slots
returns-clause-slots c =
    let table = c.self.inside.table in
    numbered-plain saved_of saved_state (λ handle a. refl) _ (with_content (plain saved_state table) c.args.handle None)
    (c.replace.ensures.after ∙ with-numbered saved_of saved_state (λ handle a. refl) table c.args.handle None c.self.invariant)
    ∙ ap (λ s. with_content s c.args.handle None) c.self.view_is

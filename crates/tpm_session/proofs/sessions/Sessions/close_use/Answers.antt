use Rattle.std.proofs.Common.{ap, ◌∙◌, Some}
use Rattle.tpm_session.specs.Kept.{with_nonce}
use Rattle.tpm_session.specs.Slots.{with_state}
use Rattle.tpm_session.proofs.Slots.{found-state, put-back}
use Rattle.tpm_session.proofs.sessions.Sessions.close_use.Goals as goal

pub returns-clause-kept : goal.returns-clause-kept
returns-clause-kept c keep =
    let old = c.args.self.now in
    let session = c.in-Some.session in
    let renewed = c.renewed-session in
    let handle = renewed.ensures.handle ∙ (found-state old c.args.handle session c.in-Some.ensures.session).0 in
    c.put_back.ensures
    ∙ (ap (λ h. with_state c.take_out.new.self h (Some renewed.result.0.state)) handle
    ∙ (ap (λ s. with_state c.take_out.new.self c.args.handle (Some s)) renewed.ensures.state
    ∙ (ap (λ s. with_state s c.args.handle (Some (with_nonce session.state c.args.nonce))) c.in-Some.ensures.slots
    ∙ put-back old c.args.handle session (λ state. with_nonce state c.args.nonce) c.in-Some.ensures.session)))

use Rattle.std.proofs.Common.{ap, ◌∙◌}
use Rattle.std.specs.Option.{option_map}
use Rattle.tpm_session.specs.Kept.{state_of_view}
use Rattle.tpm_session.specs.Slots.{session_of, content_at}
use Rattle.tpm_session.proofs.Numbered.{content-numbered}
use Rattle.tpm_session.proofs.sessions.Sessions.find.Goals as goal

pub returns : goal.returns
returns c =
    c.get.ensures
    ∙ (content-numbered session_of state_of_view c.self.inside.table c.args.handle c.self.invariant
    ∙ ap (λ s. option_map (session_of c.args.handle) (content_at s c.args.handle)) c.self.view_is)

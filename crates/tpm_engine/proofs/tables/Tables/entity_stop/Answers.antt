use Rattle.std.proofs.Common.{ap, ◌∙◌}
use Rattle.tpm_rules.specs.EntityView.{entity_of}
use Rattle.tpm_session.specs.Slots.{session_at}
use Rattle.tpm_engine.specs.Tables.{TableState}
use Rattle.tpm_engine.proofs.Authorizing.{entity-session, ok-equal}
use Rattle.tpm_engine.proofs.tables.Tables.entity_stop.Goals as goal

-- src/authorization.rt
pub returns-in-Some : goal.returns-in-Some
returns-in-Some c =
    let tables = c.args.self.now in
    let area = c.args.area.now in
    ok-equal _ _ _
    (entity-session tables c.args.locality c.args.command.now area (entity_of c.args.entity.now) c.in-Some.session.now c.if-area-eq-TPM_RS_PW.false
    (c.in-Some.ensures ∙ ap (λ (t : TableState). session_at t.sessions area.session) c.self.view_is))
    c.policy_stop.ensures

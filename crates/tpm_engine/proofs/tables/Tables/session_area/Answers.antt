use Rattle.std.proofs.Common.{ap, ◌∙◌, Some}
use Rattle.tpm_rules.specs.EntityView.{entity_of}
use Rattle.tpm_world.specs.Hashes.{nonce_of_event}
use Rattle.tpm_engine.specs.Tables.{TableState}
use Rattle.tpm_engine.proofs.Authorizing as authorizing
use Rattle.tpm_engine.proofs.tables.Tables.session_area.Goals as goal

-- src/authorization.rt
pub returns : goal.returns
returns c =
    let state = c.args.session.now.state in
    let exchange = c.args.exchange.now in
    ap Some
    (authorizing.session-area c.args.self.now exchange.number exchange.command.now exchange.reply.now exchange.area.now (entity_of c.args.entity.now) state
    c.nonce-nonce.result c.last_auth-last.result c.auth_value-value.result.now c.code_of.result _ _
    (c.nonce-nonce.ensures.nonce ∙ ap (λ (t : TableState). nonce_of_event t.world.seed exchange.number) c.self.view_is)
    (c.last_auth-last.ensures state.facts c.bindings.ensures.value)
    c.auth_value-value.ensures.value
    c.code_of.ensures
    c.in_ok-from_slice.ensures
    c.in_ok-hmac.ensures)

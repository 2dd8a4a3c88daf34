use Rattle.std.proofs.Common.{sym, ◌∙◌}
use Rattle.tpm_engine.proofs.Authorizing.{unread-cp_hash}
use Rattle.tpm_engine.proofs.tables.Tables.asked_cp_hash.Goals as goal

-- src/authorization.rt
pub returns-then-not-sets_cp_hash : goal.returns-then-not-sets_cp_hash
returns-then-not-sets_cp_hash c =
    let state = c.args.session.now.state in
    let none = sym (c.sets_cp_hash.ensures state.facts c.bindings.ensures.value) ∙ c.if-not-sets_cp_hash.true in
    record { passes = unread-cp_hash c.args.self.now c.args.command.now c.args.area.now state _ (c.is_empty.ensures.0 c.if-is_empty.true) none }

use Rattle.std.proofs.Common.{ap, refl, sym, ◌∙◌, Option}
use Rattle.std.specs.Option.{option_map_or}
use Rattle.tpol_base.specs.Digest.{zero_digest}
use Rattle.tpol_base.proofs.Digests as digests
use Rattle.tpol_wire.specs.declared.reply.Reply.TheVariants.{PolicyGetDigest}
use Rattle.tpm_bindings.specs.State.{SessionState}
use Rattle.tpm_rules.specs.Session.{policy_digest_of}
use Rattle.tpm_session.specs.Slots.{session_at}
use Rattle.tpm_session.proofs.Slots.{found-state}
use Rattle.tpm_engine.specs.Tables.{TableState}
use Rattle.tpm_engine.proofs.Slotted.{not-found}
use Rattle.tpm_engine.proofs.session_commands.policy_get_digest.reply.Goals as goal

-- src/session_commands/policy_get_digest.rt
pub returns-in-None : goal.returns-in-None
returns-in-None c =
    let none = not-found c.args.tables.now.sessions c.args.session (c.in-None.ensures ∙ ap (λ (t : TableState). session_at t.sessions c.args.session) c.tables.view_is) in
    record {
      reply = ap PolicyGetDigest
          (digests.same_digest _ zero_digest refl ∙ sym (ap (λ (o : Option SessionState). option_map_or policy_digest_of o zero_digest) none));
    }

-- src/session_commands/policy_get_digest.rt
pub returns-in-Some : goal.returns-in-Some
returns-in-Some c =
    let found = c.in-Some.ensures ∙ ap (λ (t : TableState). session_at t.sessions c.args.session) c.tables.view_is in
    record {
      reply = ap PolicyGetDigest
          (c.digest.ensures
          ∙ sym (ap (λ (o : Option SessionState). option_map_or policy_digest_of o zero_digest) (found-state c.args.tables.now.sessions c.args.session c.in-Some.session.now found).1));
    }

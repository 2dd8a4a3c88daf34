use Rattle.std.proofs.Common.{ℕ, [], None, Some, ap, sym, ◌∙◌}
use Rattle.std.specs.Option.{option_map}
use Rattle.tpol_base.specs.declared.digest.Digest32.{Digest32}
use Rattle.tpol_wire.specs.Replies.{spell_reply}
use Rattle.tpm_session.specs.Kept.{state_of}
use Rattle.tpm_session.specs.Slots.{first_free, handle_of_slot, with_state}
use Rattle.tpm_engine.specs.Deeds.{after_deed, started_by}
use Rattle.tpm_engine.specs.SessionCommands.{started_reply}
use Rattle.tpm_engine.specs.Tables.{TableState}
use Rattle.tpm_engine.proofs.Slotted.{tables_of}
use Rattle.tpm_engine.proofs.Starting.{start-tables}
use Rattle.tpm_engine.proofs.session_commands.start_auth_session.carry_out.Goals as goal

-- src/session_commands/start_auth_session.rt
pub returns : goal.returns
returns c =
    let inside = c.tables.inside in
    let handle = c.in-Ok.field-0 in
    record {
      tables = start-tables (tables_of inside.world inside.sessions inside.saved) c.args.number handle c.start.new.self
          (ap (λ (taken : ℕ). option_map handle_of_slot (first_free inside.sessions taken)) (sym c.slots-taken.ensures.value) ∙ c.in-Ok.ensures.handle)
          (c.in-Ok.ensures.slots
          ∙ (ap (λ (time : ℕ). with_state inside.sessions handle (Some (state_of time c.nonce-nonce.result [] None))) c.time-time.ensures.time
          ∙ ap (λ (nonce : Digest32). with_state inside.sessions handle (Some (state_of inside.world.time nonce [] None))) c.nonce-nonce.ensures.nonce))
          ∙ ap (λ (t : TableState). after_deed c.args.number (started_by (spell_reply (started_reply t c.args.number) None)) t) c.tables.view_is;
    }

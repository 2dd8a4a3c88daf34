use Rattle.std.proofs.Common.{◌≡◌, ap, subst, sym, ◌∙◌}
use Rattle.tpm_world.specs.World.{WorldState}
use Rattle.tpm_engine.specs.Answers.{succeeding}
use Rattle.tpm_engine.specs.Deeds.{Deed, after_deed, command_deed}
use Rattle.tpm_engine.specs.Tables.{TableState}
use Rattle.tpm_engine.proofs.Carrying.{plain-deed, session-deed}
use Rattle.tpm_engine.proofs.Slotted.{tables_of}
use Rattle.tpm_engine.proofs.tables.Tables.carry_out_other.Goals as goal

-- src/commands.rt
pub returns-then-is_session_command : goal.returns-then-is_session_command
returns-then-is_session_command c =
    record {
      tables = subst (λ (deed : Deed). c.carry_out.new.tables ≡ after_deed c.args.number deed c.args.self.now)
          (session-deed c.args.self.now c.args.number c.args.command.now (sym c.is_session_command.ensures ∙ c.if-is_session_command.true))
          c.carry_out.ensures.tables;
    }

-- src/commands.rt
pub returns : goal.returns
returns c =
    let inside = c.self.inside in
    let tables = tables_of inside.world inside.sessions inside.saved in
    record {
      tables = ap (λ (world : WorldState). tables_of world inside.sessions inside.saved) c.carry_out-2.ensures.world
          ∙ (plain-deed tables c.args.number c.args.command.now (succeeding tables c.args.number c.args.command.now).reply c.requires.other
          (sym c.is_session_command.ensures ∙ c.if-is_session_command.false)
          ∙ ap (λ (t : TableState). after_deed c.args.number (command_deed c.args.command.now (succeeding t c.args.number c.args.command.now).reply) t) c.self.view_is);
    }

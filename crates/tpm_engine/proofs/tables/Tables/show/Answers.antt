use Rattle.std.proofs.Common.{ℕ, List, ap, rules, sym, ◌∙◌}
use Rattle.tpm_engine.specs.Deeds.{after_deed, command_deed}
use Rattle.tpm_engine.specs.PolicyCommands.{policy_command_rule}
use Rattle.tpm_engine.specs.Tables.{TableState}
use Rattle.tpm_engine.proofs.Showing.{changed-tables}
use Rattle.tpm_engine.proofs.Slotted.{tables_of}
use Rattle.tpm_engine.proofs.tables.Tables.show.Goals as goal

-- src/commands.rt
pub returns : goal.returns
returns c =
    let inside = c.self.inside in
    let tables = tables_of inside.world inside.sessions inside.saved in
    let own : ℕ × ℕ = (c.in-Some.handle, c.in-Some.field-0-1) in
    record {
      tables =
          λ (reply : List ℕ). changed-tables tables c.args.number c.args.command reply own c.change.new.self c.self.invariant (sym c.in-Some.ensures.session)
          (ap (λ (t : TableState). policy_command_rule t c.args.command) c.self.view_is ∙ c.requires.rule)
          (λ before after call. search rules) c.change.ensures.slots
          ∙ ap (λ (t : TableState). after_deed c.args.number (command_deed c.args.command reply) t) c.self.view_is;
    }

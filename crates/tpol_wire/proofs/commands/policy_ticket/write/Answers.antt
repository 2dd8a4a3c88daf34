use Rattle.std.proofs.Common.{◌≡◌, ◌++◌, List, ℕ, subst}
use Rattle.std.specs.Prelude.{OnOk}
use Rattle.tpol_base.specs.declared.command_code.CommandCode.TheVariants.{PolicyTicket}
use Rattle.tpol_wire.specs.Commands.{spell_values}
use Rattle.tpol_fields.specs.Kinds.{Optional, spell}
use Rattle.tpol_fields.specs.FieldKinds.{timeout}
use Rattle.tpol_wire.specs.Rows.{row, ticketed}
use Rattle.tpol_fields.proofs.Joined.{joined_three}
use Rattle.tpol_wire.proofs.commands.policy_ticket.write.Goals as goal

pub returns : goal.returns
unfolding spell spell_values
returns c =
    let last : List ℕ = spell_values ticketed (c.args.policy_ref.now, (c.args.key.now, (c.args.ticket.now, tt))) in
    let e : c.optional.new.out ++ last ≡ c.args.out.now ++ spell_values (row PolicyTicket).parameters (c.args.timeout, (c.args.cp_hash.now, (c.args.policy_ref.now, (c.args.key.now, (c.args.ticket.now, tt))))) =
    joined_three c.args.out.now (spell timeout c.args.timeout) (spell Optional c.args.cp_hash.now) last c.timeout.new.out c.optional.new.out c.in_ok-timeout.ensures c.in_ok-optional.ensures in
    subst (λ bytes. OnOk c.write.result (c.write.new.out ≡ bytes)) e c.write.ensures

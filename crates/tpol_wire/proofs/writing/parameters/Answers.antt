use Rattle.std.proofs.Common.{sym, subst}
use Rattle.tpol_wire.specs.declared.command.Command.{Command}
use Rattle.tpol_wire.specs.Commands.{spell_parameters}
use Rattle.tpol_fields.specs.Spellings.{Appends}
use Rattle.tpol_wire.proofs.writing.parameters.Goals as goal

pub returns-in-PolicySigned : goal.returns-in-PolicySigned
returns-in-PolicySigned c = subst (λ (command : Command). Appends c.write.result c.args.out.now c.write.new.out (spell_parameters command)) (sym c.in-PolicySigned.is) c.write.ensures

pub returns-in-PolicySecret : goal.returns-in-PolicySecret
returns-in-PolicySecret c = subst (λ (command : Command). Appends c.write-in-PolicySecret.result c.args.out.now c.write-in-PolicySecret.new.out (spell_parameters command)) (sym c.in-PolicySecret.is) c.write-in-PolicySecret.ensures

pub returns-in-PolicyTicket : goal.returns-in-PolicyTicket
returns-in-PolicyTicket c = subst (λ (command : Command). Appends c.write-in-PolicyTicket.result c.args.out.now c.write-in-PolicyTicket.new.out (spell_parameters command)) (sym c.in-PolicyTicket.is) c.write-in-PolicyTicket.ensures

pub returns-in-PolicyAuthorize : goal.returns-in-PolicyAuthorize
returns-in-PolicyAuthorize c = subst (λ (command : Command). Appends c.write-in-PolicyAuthorize.result c.args.out.now c.write-in-PolicyAuthorize.new.out (spell_parameters command)) (sym c.in-PolicyAuthorize.is) c.write-in-PolicyAuthorize.ensures

use Rattle.std.proofs.Common.{arith, subst}
use Rattle.tpol_fields.specs.Answers.{Gives}
use Rattle.tpol_wire.proofs.CommandLaws.{command_read, given_found}
use Rattle.tpol_wire.proofs.WireRuleLaws.{given_refusal}
use Rattle.tpol_wire.proofs.reading.read_command.Goals as goal

pub returns-clause-found : goal.returns-clause-found
returns-clause-found c = given_found c.args.bytes.now c.whole.result (λ i. omega (arith, c.type_inv.bytes i)) c.whole.ensures

pub returns-clause-only : goal.returns-clause-only
returns-clause-only c = λ command spelled. subst (λ r. Gives c.whole.result r) (command_read c.args.bytes.now command spelled) c.whole.ensures

pub returns-clause-refused : goal.returns-clause-refused
returns-clause-refused c = given_refusal c.args.bytes.now c.whole.result c.whole.ensures

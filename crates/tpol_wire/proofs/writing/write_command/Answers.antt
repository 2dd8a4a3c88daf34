use Rattle.std.proofs.Common.{◌≡◌}
use Rattle.tpol_wire.specs.Commands.{spelling}
use Rattle.tpol_wire.proofs.Lengths.{command_written}
use Rattle.tpol_wire.proofs.writing.write_command.Goals as goal

is_spelled : (c : goal.After-finish) → c.finish.result ≡ spelling c.args.command.now
is_spelled c = command_written c.args.command.now c.command_code-code.result c.tag_of.result c.number.result c.in_ok-message.message c.front.new.out c.parameters.new.out c.finish.result
    c.command_code-code.ensures c.tag_of.ensures c.number.ensures c.in_ok-message.ensures c.in_ok-front.ensures c.in_ok-parameters.ensures c.finish.ensures

pub returns-clause-spelling : goal.returns-clause-spelling
returns-clause-spelling c = is_spelled c

pub returns-clause-spells : goal.returns-clause-spells
returns-clause-spells c = λ fits. record { whole = is_spelled c; fits = fits }

use Rattle.std.proofs.Common.{refl}
use Rattle.tpol_wire.specs.Commands.{spelling}
use Rattle.tpol_wire.proofs.CommandLaws.{command_found, command_read}
use Rattle.tpol_wire.proofs.laws.read_back.Goals as goal

pub returns-clause-command : goal.returns-clause-command
returns-clause-command c = λ command fits. command_read (spelling command) command (record { whole = refl; fits = fits })

pub returns-clause-bytes : goal.returns-clause-bytes
returns-clause-bytes c = λ bytes command spelled. command_read bytes command spelled

pub returns-clause-spelled : goal.returns-clause-spelled
returns-clause-spelled c = λ bytes command are read. command_found bytes command are read

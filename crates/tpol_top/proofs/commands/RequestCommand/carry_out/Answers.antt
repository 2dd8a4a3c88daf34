use Rattle.tpol_top.proofs.Explaining.{performed_told}
use Rattle.tpol_top.proofs.Imported.{after_import}
use Rattle.tpol_top.proofs.commands.RequestCommand.carry_out.Goals as goal

pub returns-in-Import-clause-leaves : goal.returns-in-Import-clause-leaves
returns-in-Import-clause-leaves g c =
    rw c.in-Import.is
    (after_import _ c.args.input.now c.import.result (g.H.Shelf.documents c.args.shelf.now) (g.H.Shelf.documents c.import.new.shelf)
    c.import.ensures.answer c.import.ensures.puts c.import.ensures.keeps)

pub returns-in-Perform-clause-told : goal.returns-in-Perform-clause-told
returns-in-Perform-clause-told g c =
    rw c.in-Perform.is
    (performed_told c.in-Perform.manner c.perform_scene.result (g.H.Shelf.documents c.args.shelf.now) c.args.input.now c.perform_scene.ensures.explained)

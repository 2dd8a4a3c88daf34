use Rattle.std.proofs.Common.{◌≡◌, subst, IfOk}
use Rattle.tpol_driver.specs.Driving.{Driving, sends}
use Rattle.tpol_driver.specs.States.{IsSent}
use Rattle.tpol_driver.proofs.planned.Planned.next.Goals as goal
use Rattle.tpol_wire.specs.declared.command.Command.{Command}
use Rattle.tpol_wire.specs.Commands.{spelling}

pub returns : goal.returns
returns c = record {
  sends =
      let P : Driving → Type 0 = λ d. IfOk c.sent_bytes.result (IsSent (sends d.plan d.standing)) in
      let Q : Command → Type 0 = λ command. IfOk c.sent_bytes.result (λ bytes. bytes ≡ spelling command) in
      subst P c.self.view_is (subst Q c.command-command.ensures c.sent_bytes.ensures);
}

use Rattle.std.proofs.Common.{◌≡◌, subst, IfOk}
use Rattle.tpol_driver.specs.Blind.{BlindDriving, blind_sends}
use Rattle.tpol_driver.specs.BlindStates.{IsBlindSent}
use Rattle.tpol_driver.proofs.blind_start.BlindStart.next.Goals as goal
use Rattle.tpol_wire.specs.declared.command.Command.{Command}
use Rattle.tpol_wire.specs.Commands.{spelling}

pub returns : goal.returns
returns c = record {
  sends =
      let P : BlindDriving → Type 0 = λ d. IfOk c.sent_bytes.result (IsBlindSent (blind_sends d.plan d.standing)) in
      let Q : Command → Type 0 = λ command. IfOk c.sent_bytes.result (λ bytes. bytes ≡ spelling command) in
      subst P c.self.view_is (subst Q c.command-command.ensures c.sent_bytes.ensures);
}

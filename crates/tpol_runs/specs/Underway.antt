-- A run that is under way.
use Rattle.std.specs.Prelude.{ℕ, List}
use Rattle.tpol_driver.specs.declared.plan.Plan.{Plan}
use Rattle.tpol_driver.specs.declared.tickets.HeldTicket.{HeldTicket}
use Rattle.tpol_driver.specs.Blind.{BlindDriving}
use Rattle.tpol_driver.specs.Driving.{Standing}

-- what a driver on one path is to do, where it stands, and the tickets that it has earned, each with the reset count
-- that the machine had when it was answered
pub record Driven : Type 0 where
  pub plan : Plan
  pub standing : Standing
  pub earned : List HeldTicket

-- a run's driver: one on a path that was chosen, or a blind one on the paths of the policy of this name
pub data Driver : Type 0 where
  Sighted : Driven → Driver
  Blind : List ℕ → BlindDriving → Driver

-- the client that sends its commands, from which locality, and the driver
pub record Underway : Type 0 where
  pub client : ℕ
  pub locality : ℕ
  pub driver : Driver

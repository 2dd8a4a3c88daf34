-- What contracts see of the states of the two drivers.
use Rattle.std.specs.Prelude.{ℕ, List}
use Rattle.tpol_driver.specs.Blind.{BlindDriving}
use Rattle.tpol_driver.specs.declared.next.Next.{Next}
use Rattle.tpol_driver.specs.declared.next.Next.TheVariants as nexts
use Rattle.tpol_driver.specs.declared.tickets.HeldTicket.{HeldTicket}
use Rattle.tpol_driver.specs.Driving.{Driving}
use Rattle.tpol_runs.specs.Earned.{with_counts}
use Rattle.tpol_runs.specs.Underway.{Driven}
use Rattle.tpol_runs.specs.declared.blind_state.BlindState.{BlindState}
use Rattle.tpol_runs.specs.declared.blind_state.BlindState.TheVariants as blind
use Rattle.tpol_runs.specs.declared.state.State.{State}
use Rattle.tpol_runs.specs.declared.state.State.TheVariants.{Planned, Asserting, Ready, Closing}

abbrev pub driving_of : State → Driving
driving_of (Planned driving) = driving
driving_of (Asserting driving) = driving
driving_of (Ready driving) = driving
driving_of (Closing driving) = driving

-- the same with these reset counts in the tickets that the run has earned
abbrev pub driven_of : State → List ℕ → Driven
driven_of state counts = record {
  plan = (driving_of state).plan;
  standing = (driving_of state).standing;
  earned = with_counts (driving_of state).earned counts;
}

-- the tickets that a run has earned in the state that a reply leads to
abbrev pub earned_of_next : Next → List HeldTicket
earned_of_next (nexts.Asserting driving) = driving.earned
earned_of_next (nexts.Ready driving) = driving.earned
earned_of_next (nexts.Closing driving) = driving.earned
earned_of_next (nexts.Over over) = over.earned

abbrev pub blind_driving_of : BlindState → BlindDriving
blind_driving_of (blind.Start driving) = driving
blind_driving_of (blind.Asserting driving) = driving
blind_driving_of (blind.Ready driving) = driving
blind_driving_of (blind.Again driving) = driving
blind_driving_of (blind.Closing driving) = driving

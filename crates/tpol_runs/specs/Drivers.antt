-- What contracts see of the driver of a run.
use Rattle.tpol_runs.specs.declared.driver_state.DriverState.{DriverState}
use Rattle.tpol_runs.specs.declared.driver_state.DriverState.TheVariants as drivers
use Rattle.tpol_runs.specs.State.{blind_driving_of}
use Rattle.tpol_runs.specs.Underway.{Blind, Driver, Sighted}

abbrev pub driver_of : DriverState → Driver
driver_of (drivers.Sighted driven) = Sighted driven
driver_of (drivers.Blind policy state) = Blind policy (blind_driving_of state)

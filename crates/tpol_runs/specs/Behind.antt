-- Drivers behind a reply.
use Rattle.std.specs.Prelude.{◌≡◌, Some, None}
use Rattle.tpol_runs.specs.declared.driver_state.Behind.{Behind}
use Rattle.tpol_runs.specs.declared.driver_state.Behind.TheVariants as behinds
use Rattle.tpol_runs.specs.Courses.{end_of}
use Rattle.tpol_runs.specs.Drivers.{driver_of}
use Rattle.tpol_runs.specs.Underway.{Driver}

-- a driver that stands here: it goes on, or it is at its end
abbrev pub IsBehind : Driver → Behind → Type 0
IsBehind driver (behinds.Goes state) = (driver_of state ≡ driver) × (end_of driver ≡ None)
IsBehind driver (behinds.Ends ended) = end_of driver ≡ Some ended

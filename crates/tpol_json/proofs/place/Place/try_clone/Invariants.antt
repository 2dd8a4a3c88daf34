use Rattle.std.proofs.Common.{◌≡◌, take}
use Rattle.tpol_json.proofs.place.Place.try_clone.Given as goal

abbrev pub invariant-loop-step : goal.invariant-loop-step
invariant-loop-step l = l.steps ≡ take l.step-index l.self.steps

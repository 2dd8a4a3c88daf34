use Rattle.std.proofs.Common.{◌≡◌, ◌++◌, drop, false}
use Rattle.tpol_json.specs.PlaceText.{steps_text}
use Rattle.tpol_json.proofs.spelling.place_text.Given as goal

abbrev pub invariant-loop-step : goal.invariant-loop-step
invariant-loop-step l =
    l.text ++ steps_text l.later (drop l.step-index l.step-items) ≡ steps_text false l.step-items

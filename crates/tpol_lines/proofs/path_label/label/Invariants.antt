use Rattle.std.proofs.Common.{◌≡◌, ◌++◌, ◌∷◌, take, map}
use Rattle.std.specs.List.{flat_map}
use Rattle.tpol_lines.specs.PathLine.{step_text}
use Rattle.tpol_lines.proofs.path_label.label.Given as goal

abbrev pub invariant-loop-step : goal.invariant-loop-step
invariant-loop-step l =
    l.text ≡ l.initial.text ++ flat_map (λ piece. 47 ∷ piece) (map step_text (take l.step-index l.rest))

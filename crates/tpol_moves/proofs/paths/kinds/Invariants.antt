use Rattle.std.proofs.Common.{◌≡◌, ◌++◌, ◌∷◌, take, map}
use Rattle.std.specs.List.{flat_map}
use Rattle.tpol_lines.specs.PathLine.{move_kind}
use Rattle.tpol_moves.proofs.paths.kinds.Given as goal

abbrev pub invariant-loop-act : goal.invariant-loop-act
invariant-loop-act l =
    l.text ≡ l.initial.text ++ flat_map (λ piece. 44 ∷ piece) (map move_kind (take l.act-index l.rest))

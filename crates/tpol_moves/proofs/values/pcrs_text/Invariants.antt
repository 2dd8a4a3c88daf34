use Rattle.std.proofs.Common.{◌≡◌, ◌++◌, ◌∷◌, take, map, decimal}
use Rattle.std.specs.List.{flat_map}
use Rattle.tpol_moves.proofs.values.pcrs_text.Given as goal

abbrev pub invariant-loop-pcr : goal.invariant-loop-pcr
invariant-loop-pcr l =
    l.text ≡ l.initial.text ++ flat_map (λ piece. 44 ∷ piece) (map decimal (take l.pcr-index l.rest))

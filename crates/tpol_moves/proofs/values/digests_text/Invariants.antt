use Rattle.std.proofs.Common.{◌≡◌, ◌++◌, ◌∷◌, take, map}
use Rattle.std.specs.List.{flat_map}
use Rattle.tpol_moves.specs.Arguments.{digest_text}
use Rattle.tpol_moves.proofs.values.digests_text.Given as goal

abbrev pub invariant-loop-digest : goal.invariant-loop-digest
invariant-loop-digest l =
    l.text ≡ l.initial.text ++ flat_map (λ piece. 44 ∷ piece) (map digest_text (take l.digest-index l.rest))

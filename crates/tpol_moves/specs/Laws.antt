-- What holds of the lines of each path.
use Rattle.std.specs.Prelude.{◌≡◌, ℕ, ◌+◌, List, [], ◌∷◌, ◌++◌, All, length, slice_get, take, Some}
use Rattle.tpol_digest.specs.Digest.{digest_of_moves, policy_digest}
use Rattle.tpol_digest.specs.Paths.{paths_of}
use Rattle.tpol_lines.specs.Lines.{line_of}
use Rattle.tpol_moves.specs.Steps.{step_line, step_lines}
use Rattle.tpol_tree.specs.declared.closed.Closed.{Closed}
use Rattle.tpol_tree.specs.declared.path.ApprovedDoc.{ApprovedDoc}
use Rattle.tpol_tree.specs.declared.path.Move.{Move}

-- The line of each command, by its index from 0, has the digest of the commands up to it.
abbrev pub StepsHavePrefixDigests : Type 0
StepsHavePrefixDigests =
    (moves : List Move) (index : ℕ) (act : Move) → slice_get moves index ≡ Some act
    → slice_get (step_lines [] moves) index
    ≡ Some (line_of (step_line (index + 1) act (digest_of_moves (take (index + 1) moves))))

-- The line of the last command of a policy's path has the policy's digest.
abbrev pub LastStepsHavePolicyDigest : Type 0
LastStepsHavePolicyDigest =
    (policy : Closed) (documents : List ApprovedDoc) →
    All (λ path. (before : List Move) (act : Move) → path.moves ≡ before ++ act ∷ []
    → slice_get (step_lines [] path.moves) (length before)
    ≡ Some (line_of (step_line (length before + 1) act (policy_digest policy)))) (paths_of policy documents)

-- The lines of a path's policy commands, with the digest of a session after each.
use Rattle.std.specs.Prelude.{ℕ, ◌+◌, List, [], ◌∷◌, ◌++◌, codes, decimal, length}
use Rattle.std.specs.List.{flat_map}
use Rattle.tpol_base.specs.declared.digest.Digest32.{Digest32}
use Rattle.tpol_digest.specs.Digest.{digest_of_moves}
use Rattle.tpol_lines.specs.Lines.{line_of}
use Rattle.tpol_lines.specs.PathLine.{move_kind}
use Rattle.tpol_moves.specs.Arguments.{digest_text, move_words}
use Rattle.tpol_tree.specs.declared.path.Move.{Move}

-- words, with a space in front of each
abbrev pub behind_spaces : List (List ℕ) → List ℕ
behind_spaces words = flat_map (λ word. 32 ∷ word) words

-- the policy command of this number, from 1, its arguments, and the digest of a session after it
abbrev pub step_line : ℕ → Move → Digest32 → List ℕ
step_line number act after =
    codes "step " ++ decimal number ++ codes " " ++ move_kind act ++ behind_spaces (move_words act)
    ++ codes " after " ++ digest_text after

-- The lines of policy commands that are sent after these: behind each stands the digest of all commands up to it.
abbrev pub step_lines : List Move → List Move → List (List ℕ)
step_lines sent [] = []
step_lines sent (act ∷ rest) =
    line_of (step_line (length sent + 1) act (digest_of_moves (sent ++ act ∷ []))) ∷ step_lines (sent ++ act ∷ []) rest

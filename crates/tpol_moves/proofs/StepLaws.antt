-- Laws of the lines of a path's policy commands.
use Rattle.std.proofs.Common.{◌≡◌, ℕ, ◌+◌, zero, suc, List, [], ◌∷◌, ◌++◌, length, take, Some, ap, sym, ◌∙◌, arith}
use Rattle.std.proofs.lemmas.List.{append_assoc, length-append}
use Rattle.std.proofs.lemmas.List.Elements.{All-weaker}
use Rattle.std.specs.List.{slice_get}
use Rattle.tpol_digest.proofs.Meeting.{paths_of_meet}
use Rattle.tpol_digest.specs.Digest.{digest_of_moves, policy_digest}
use Rattle.tpol_digest.specs.Paths.{paths_of}
use Rattle.tpol_lines.specs.Lines.{line_of}
use Rattle.tpol_moves.specs.Laws.{LastStepsHavePolicyDigest, StepsHavePrefixDigests}
use Rattle.tpol_moves.specs.Steps.{step_line, step_lines}
use Rattle.tpol_tree.specs.declared.path.Move.{Move}
use Rattle.tpol_tree.specs.declared.path.Path.{Path}

-- the line of a command, behind which a session has the digest of these
abbrev line_behind : ℕ → Move → List Move → List ℕ
line_behind number act moves = line_of (step_line number act (digest_of_moves moves))

line_at : (sent moves : List Move) (index : ℕ) (act : Move) → slice_get moves index ≡ Some act → slice_get (step_lines sent moves) index ≡ Some (line_behind (length sent + index + 1) act (sent ++ take (index + 1) moves))
line_at sent [] index act h = absurd (cc h)
line_at sent (first ∷ rest) zero act h =
    ap (λ n. Some (line_behind (n + 1) first (sent ++ first ∷ []))) (omega arith)
    ∙ ap (λ one. Some (line_behind (length sent + 0 + 1) one (sent ++ first ∷ []))) (cc h)
line_at sent (first ∷ rest) (suc index) act h =
    line_at (sent ++ first ∷ []) rest index act h
    ∙ ap (λ n. Some (line_behind (n + index + 1) act ((sent ++ first ∷ []) ++ take (index + 1) rest))) (length-append sent (first ∷ []))
    ∙ ap (λ n. Some (line_behind n act ((sent ++ first ∷ []) ++ take (index + 1) rest))) (omega arith)
    ∙ ap (λ moves. Some (line_behind (length sent + suc index + 1) act moves)) (append_assoc sent (first ∷ []) (take (index + 1) rest) ∙ ap (λ n. sent ++ take n (first ∷ rest)) more)
  where
    more : suc (index + 1) ≡ suc index + 1
    more = omega arith

pub prefix_digests : StepsHavePrefixDigests
prefix_digests moves index act h =
    line_at [] moves index act h
    ∙ ap (λ n. Some (line_behind (n + 1) act (take (index + 1) moves))) (omega arith)

last_line : (sent before : List Move) (act : Move) → slice_get (step_lines sent (before ++ act ∷ [])) (length before) ≡ Some (line_behind (length sent + length before + 1) act (sent ++ (before ++ act ∷ [])))
last_line sent [] act = ap (λ n. Some (line_behind (n + 1) act (sent ++ act ∷ []))) (omega arith)
last_line sent (first ∷ before) act =
    last_line (sent ++ first ∷ []) before act
    ∙ ap (λ n. Some (line_behind (n + length before + 1) act ((sent ++ first ∷ []) ++ (before ++ act ∷ [])))) (length-append sent (first ∷ []))
    ∙ ap (λ n. Some (line_behind n act ((sent ++ first ∷ []) ++ (before ++ act ∷ [])))) (omega arith)
    ∙ ap (λ moves. Some (line_behind (length sent + suc (length before) + 1) act moves)) (append_assoc sent (first ∷ []) (before ++ act ∷ []))

pub last_digests : LastStepsHavePolicyDigest
last_digests policy documents =
    All-weaker (λ (path : Path). digest_of_moves path.moves ≡ policy_digest policy) (λ (path : Path). (before : List Move) (act : Move) → path.moves ≡ before ++ act ∷ [] → slice_get (step_lines [] path.moves) (length before) ≡ Some (line_of (step_line (length before + 1) act (policy_digest policy)))) (λ path meets before act is.
    ap (λ moves. slice_get (step_lines [] moves) (length before)) is
    ∙ last_line [] before act
    ∙ ap (λ n. Some (line_behind (n + 1) act (before ++ act ∷ []))) (omega arith)
    ∙ ap (λ d. Some (line_of (step_line (length before + 1) act d))) (ap digest_of_moves (sym is) ∙ meets)) (paths_of policy documents) (paths_of_meet policy documents)

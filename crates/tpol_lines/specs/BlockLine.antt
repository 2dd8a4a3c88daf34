-- The line of a path that cannot be gone.
use Rattle.std.specs.Prelude.{ℕ, List, [], ◌∷◌, codes, decimal}
use Rattle.tpol_choose.specs.declared.block.Block.{Block}
use Rattle.tpol_choose.specs.declared.block.Why.{Why}
use Rattle.tpol_choose.specs.declared.block.Why.TheVariants.{Outside, NoSession, NoEntity, NoKey, Answer, Deferred, GoalRule}
use Rattle.tpol_tree.specs.declared.path.PathStep.{PathStep}
use Rattle.tpol_lines.specs.Events.{check_word}
use Rattle.tpol_lines.specs.Hex.{code_text}
use Rattle.tpol_lines.specs.Lines.{spaced}
use Rattle.tpol_lines.specs.PathLine.{label}

-- the code that answers the move at this place
abbrev pub answer_text : ℕ → ℕ → List ℕ
answer_text place code = spaced (codes "move" ∷ decimal place ∷ codes "answer" ∷ code_text code ∷ [])

-- what stands in the way: of the whole path, of the move at this place from 1, or of the goal
abbrev pub why_text : ℕ → Why → List ℕ
why_text place Outside = codes "outside"
why_text place NoSession = codes "nosession"
why_text place NoEntity = spaced (codes "move" ∷ decimal place ∷ codes "noentity" ∷ [])
why_text place NoKey = spaced (codes "move" ∷ decimal place ∷ codes "nokey" ∷ [])
why_text place (Answer rc) = answer_text place rc.code
why_text place (Deferred check) = spaced (codes "goal" ∷ codes "denied" ∷ check_word check ∷ [])
why_text place (GoalRule rc) = spaced (codes "goal" ∷ codes "answer" ∷ code_text rc.code ∷ [])

-- the path at this position, with its choices
abbrev pub block_line : ℕ → List PathStep → Block → List ℕ
block_line position steps block =
    spaced (codes "block" ∷ decimal position ∷ label steps ∷ why_text block.at block.why ∷ [])

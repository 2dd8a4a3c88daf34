-- The line of a path of a blind run that was not served.
use Rattle.std.specs.Prelude.{ℕ, List, [], ◌∷◌, codes, decimal}
use Rattle.tpol_driver.specs.declared.blind_end.Tried.{Tried}
use Rattle.tpol_driver.specs.declared.blind_end.Tried.TheVariants.{Skipped, Refused}
use Rattle.tpol_tree.specs.declared.path.PathStep.{PathStep}
use Rattle.tpol_lines.specs.Hex.{code_text}
use Rattle.tpol_lines.specs.Lines.{spaced}
use Rattle.tpol_lines.specs.PathLine.{label}
use Rattle.tpol_lines.specs.Runs.{stage_text}

-- it was not tried, or a command was refused with this code
abbrev pub tried_text : Tried → List ℕ
tried_text Skipped = codes "skipped"
tried_text (Refused stage rc) = spaced (stage_text stage ∷ code_text rc.code ∷ [])

-- the path at this position, with its choices
abbrev pub tried_line : ℕ → List PathStep → Tried → List ℕ
tried_line position steps tried =
    spaced (codes "block" ∷ decimal position ∷ label steps ∷ tried_text tried ∷ [])

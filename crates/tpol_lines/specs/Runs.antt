-- The lines of a run: where it begins and how it ends.
use Rattle.std.specs.Prelude.{ℕ, List, [], ◌∷◌, codes, decimal}
use Rattle.tpol_driver.specs.declared.end.End.{End}
use Rattle.tpol_driver.specs.declared.end.End.TheVariants as ends
use Rattle.tpol_driver.specs.declared.end.Stage.{Stage}
use Rattle.tpol_driver.specs.declared.end.Stage.TheVariants as stages
use Rattle.tpol_tree.specs.declared.path.PathStep.{PathStep}
use Rattle.tpol_lines.specs.Hex.{bytes_text, code_text}
use Rattle.tpol_lines.specs.Lines.{spaced}
use Rattle.tpol_lines.specs.PathLine.{label}

-- the path at this position was chosen
abbrev pub chosen_line : ℕ → ℕ → List PathStep → List ℕ
chosen_line run position steps =
    spaced (codes "run" ∷ decimal run ∷ codes "path" ∷ decimal position ∷ label steps ∷ [])

-- no path can be carried out
abbrev pub nobranch_line : ℕ → List ℕ
nobranch_line run = spaced (codes "run" ∷ decimal run ∷ codes "nobranch" ∷ [])

-- a run that does not see the machine begins
abbrev pub blind_line : ℕ → List ℕ
blind_line run = spaced (codes "run" ∷ decimal run ∷ codes "blind" ∷ [])

abbrev pub stage_text : Stage → List ℕ
stage_text stages.Start = codes "start"
stage_text (stages.Verify place) = spaced (codes "verify" ∷ decimal place ∷ [])
stage_text (stages.Move place) = spaced (codes "move" ∷ decimal place ∷ [])
stage_text stages.Goal = codes "goal"
stage_text stages.Restart = codes "restart"

abbrev pub end_text : End → List ℕ
end_text (ends.Served bytes) = spaced (codes "served" ∷ bytes_text bytes ∷ [])
end_text (ends.Denied stage rc) = spaced (codes "denied" ∷ stage_text stage ∷ code_text rc.code ∷ [])
end_text (ends.BadReply stage) = spaced (codes "badreply" ∷ stage_text stage ∷ [])

-- how a run ended
abbrev pub end_line : ℕ → End → List ℕ
end_line run end = spaced (codes "run" ∷ decimal run ∷ end_text end ∷ [])

-- a turn of a run that was over
abbrev pub over_line : ℕ → List ℕ
over_line run = spaced (codes "run" ∷ decimal run ∷ codes "over" ∷ [])

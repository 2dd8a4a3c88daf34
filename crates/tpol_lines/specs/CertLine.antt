-- The lines of certificates: as they are printed, and as they are accepted.
use Rattle.std.specs.Prelude.{ℕ, List, [], ◌∷◌, codes, decimal}
use Rattle.hex.specs.Hex.{encode_lower}
use Rattle.tpol_lines.specs.Lines.{spaced}
use Rattle.tpol_lines.specs.PathLine.{label}
use Rattle.tpol_tree.specs.declared.path.PathStep.{PathStep}

-- the certificate of the opening behind this event
abbrev pub certificate_line : ℕ → List ℕ → List ℕ
certificate_line event bytes = spaced (codes "cert" ∷ decimal event ∷ encode_lower bytes ∷ [])

-- the path at this position, with its choices
abbrev pub certified_line : ℕ → List PathStep → List ℕ
certified_line position steps = spaced (codes "path" ∷ decimal position ∷ label steps ∷ [])

-- What a pen writes.
use Rattle.std.specs.Prelude.{ℕ, List, [], ◌∷◌, ◌++◌, codes, decimal}
use Rattle.tpol_lines.specs.declared.pen.Form.{Form}
use Rattle.tpol_lines.specs.declared.pen.Form.TheVariants.{Line, Label}
use Rattle.tpol_lines.specs.Lines.{line_of}

-- pieces without the separator in front of the first, or what stands for none
abbrev pub behind_separator : List ℕ → List ℕ → List ℕ
behind_separator [] none = none
behind_separator (separator ∷ pieces) none = pieces

-- the line of a path at this position, of its choices, each behind a `/`, and the kinds of its policy
-- commands, each behind a `,`
abbrev pub line_behind : ℕ → List ℕ → List ℕ → List ℕ
line_behind position choices kinds =
    codes "path " ++ decimal position ++ codes " " ++ behind_separator choices (codes "-") ++ codes " " ++ behind_separator kinds []

-- what is written of a path at this position
abbrev pub written : Form → ℕ → List ℕ → List ℕ → List ℕ
written Line position choices kinds = line_of (line_behind position choices kinds)
written Label position choices kinds = behind_separator choices (codes "-")

-- What a command has to say.
use Rattle.std.specs.Prelude.{ℕ, List, [], ◌∷◌}
use Rattle.std.specs.List.{flat_map}
use Rattle.tpol_lines.specs.Lines.{line_of}
use Rattle.tpol_steps.specs.declared.answer.Verdict.{Verdict}
use Rattle.tpol_steps.specs.declared.answer.Answer.{Answer}

-- the answer of one line
abbrev pub one_line : List ℕ → Verdict → Answer
one_line text verdict = record { lines = line_of text ∷ []; verdict = verdict }

-- lines joined to one text
abbrev pub text_of : List (List ℕ) → List ℕ
text_of lines = flat_map (λ line. line) lines

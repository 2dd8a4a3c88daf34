-- The lines of paths that can never open.
use Rattle.std.specs.Prelude.{ℕ, ◌-◌, List, [], ◌∷◌, codes, decimal, map, slice_get}
use Rattle.tpm_bindings.specs.declared.disagreement.Disagreement.{Disagreement}
use Rattle.tpm_bindings.specs.declared.disagreement.Disagreement.TheVariants as rules
use Rattle.tpol_lint.specs.declared.dead.Dead.{Dead}
use Rattle.tpol_lines.specs.Lines.{line_of, spaced}
use Rattle.tpol_lines.specs.OpeningLine.{steps_of}
use Rattle.tpol_lines.specs.PathLine.{label}
use Rattle.tpol_tree.specs.declared.path.Path.{Path}
use Rattle.tpol_tree.specs.declared.path.PathStep.{PathStep}

-- the word for the rule that moves break
abbrev pub rule_word : Disagreement → List ℕ
rule_word rules.Code = codes "Code"
rule_word rules.Locality = codes "Locality"
rule_word rules.CpHash = codes "CpHash"
rule_word rules.NameHash = codes "NameHash"
rule_word rules.Kinds = codes "Kinds"
rule_word rules.NvWritten = codes "NvWritten"

-- the path with these choices never opens: its moves up to this one break the rule
abbrev pub dead_line : Dead → List PathStep → List ℕ
dead_line dead steps =
    spaced (codes "dead" ∷ decimal dead.path ∷ label steps ∷ rule_word dead.rule ∷ codes "move" ∷ decimal dead.at ∷ [])

-- a line for each of these dead paths, with the choices of the path at its position
abbrev pub dead_lines : List Path → List Dead → List (List ℕ)
dead_lines paths dead = map (λ one. line_of (dead_line one (steps_of (slice_get paths (one.path - 1))))) dead

-- how many of all paths are dead
abbrev pub lint_line : ℕ → ℕ → List ℕ
lint_line dead all = spaced (codes "lint" ∷ decimal dead ∷ codes "of" ∷ decimal all ∷ [])

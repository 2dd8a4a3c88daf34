-- The lines of a policy that is generated.
use Rattle.std.specs.Prelude.{ℕ, List, [], ◌∷◌, codes, decimal}
use Rattle.tpol_lines.specs.Lines.{spaced}

-- so many ORs, and the number by whose bits their branches are ordered
abbrev pub generated_line : ℕ → ℕ → List ℕ
generated_line ors order = spaced (codes "gen" ∷ decimal ors ∷ decimal order ∷ [])

-- how many paths the policy has
abbrev pub path_count_line : ℕ → List ℕ
path_count_line count = spaced (codes "paths" ∷ decimal count ∷ [])

-- how many commands were executed
abbrev pub command_count_line : ℕ → List ℕ
command_count_line count = spaced (codes "commands" ∷ decimal count ∷ [])

-- Lines of text.
use Rattle.std.specs.Prelude.{ℕ, List, [], ◌∷◌, ◌++◌}

-- a line with its line end
abbrev pub line_of : List ℕ → List ℕ
line_of text = text ++ 10 ∷ []

-- words with a space between two
abbrev pub spaced : List (List ℕ) → List ℕ
spaced [] = []
spaced (word ∷ []) = word
spaced (word ∷ other ∷ rest) = word ++ 32 ∷ spaced (other ∷ rest)

-- Lines that are heads, each with a tail that others may share.
use Rattle.std.specs.Prelude.{ℕ, ◌≤◌, List, [], ◌∷◌, ◌++◌, length, slice_index_or, ⊤}

-- the tail of this number, counted from 1; no byte for 0
abbrev pub tail_of : List (List ℕ) → ℕ → List ℕ
tail_of tails number = slice_index_or ([] ∷ tails) number []

-- the lines of these heads, each with the tail of its number
abbrev pub whole_lines : List (List ℕ) → List ℕ → List (List ℕ) → List (List ℕ)
whole_lines tails [] heads = []
whole_lines tails (number ∷ numbers) [] = []
whole_lines tails (number ∷ numbers) (head ∷ heads) = (head ++ tail_of tails number) ∷ whole_lines tails numbers heads

-- each head has a number, and each number a tail
abbrev pub HaveTails : List (List ℕ) → List ℕ → List (List ℕ) → Type 0
HaveTails tails [] [] = ⊤
HaveTails tails [] (head ∷ heads) = ⊥
HaveTails tails (number ∷ numbers) [] = ⊥
HaveTails tails (number ∷ numbers) (head ∷ heads) = (number ≤ length tails) × HaveTails tails numbers heads

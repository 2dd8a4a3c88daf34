-- Texts that stand behind one another in one list of bytes.
use Rattle.std.specs.Prelude.{ℕ, ◌≡◌, ◌≤◌, List, [], ◌∷◌, slice_range}

-- the bytes from a start on, cut at these ends
abbrev pub cut : ℕ → List ℕ → List ℕ → List (List ℕ)
cut start [] bytes = []
cut start (end ∷ ends) bytes = slice_range bytes start end ∷ cut end ends bytes

-- the ends ascend from a start, and the last is the end of all bytes
abbrev pub AreEnds : ℕ → List ℕ → ℕ → Type 0
AreEnds start [] all = start ≡ all
AreEnds start (end ∷ ends) all = (start ≤ end) × AreEnds end ends all

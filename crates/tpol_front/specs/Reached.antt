-- How far a run comes before it asks the shelf.
use Rattle.std.specs.Prelude.{ℕ, List, ◌<◌, length, Option, Some, None}
use Rattle.tpol_front.specs.Commands.{Commands}
use Rattle.tpol_front.specs.Report.{most_read, seen_by}

-- the bytes are a document that a command wants, and are not too large
abbrev pub IsReadable : (List ℕ → Type 0) → List ℕ → Type 0
IsReadable IsDocument input = (length input < most_read) × IsDocument input

-- the same of what the command that the words are sees of the source
abbrev pub IsReadableOf : {C : Type 0} → Commands C → (C → List ℕ → Type 0) → Option C → List ℕ → Type 0
IsReadableOf commands IsDocument None input = ⊥
IsReadableOf commands IsDocument (Some command) input = IsReadable (IsDocument command) (seen_by commands command input)
